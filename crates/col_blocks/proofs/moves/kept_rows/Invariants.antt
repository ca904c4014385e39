use Rattle.std.proofs.Common.{◌≡◌, [], take}
use Rattle.col_blocks.specs.Kept.{kept_by}
use Rattle.col_blocks.proofs.moves.kept_rows.Given as goal

abbrev pub invariant-loop-row : goal.invariant-loop-row
invariant-loop-row l = l.builder ≡ record { kind = l.block.kind; cells = kept_by (take l.row l.keep) (take l.row l.block.cells); row = [] }
