use Rattle.std.proofs.Common.{◌≡◌, [], take, drop}
use Rattle.col_blocks.proofs.moves.part_of_rows.Given as goal

abbrev pub invariant-loop-row : goal.invariant-loop-row
invariant-loop-row l = l.builder ≡ record { kind = l.block.kind; cells = take l.row (drop l.start l.block.cells); row = [] }
