use Rattle.std.proofs.Common.{◌≡◌, [], map, take}
use Rattle.col_blocks.specs.Cells.{first_or}
use Rattle.col_blocks.specs.Pieces.{pieces}
use Rattle.col_blocks.proofs.spread.spread_texts.Given as goal

abbrev pub invariant-loop-row : goal.invariant-loop-row
invariant-loop-row l = l.new ≡ map (first_or []) (take l.row (pieces l.texts 0 l.ends))
