use Rattle.std.proofs.Common.{◌≡◌, [], map, take}
use Rattle.col_blocks.specs.Cells.{first_or}
use Rattle.col_blocks.specs.Pieces.{pieces}
use Rattle.col_blocks.proofs.spread.spread_items.Given as goal

abbrev pub invariant-loop-row : goal.invariant-loop-row
invariant-loop-row g l = l.new.items ≡ map (first_or l.other) (take l.row (pieces l.items 0 l.ends))
