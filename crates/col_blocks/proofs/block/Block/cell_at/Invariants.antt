use Rattle.std.proofs.Common.{◌≡◌, [], take, get_or}
use Rattle.col_blocks.proofs.block.Block.cell_at.Given as goal

abbrev pub invariant-loop-place : goal.invariant-loop-place
invariant-loop-place l = l.cell ≡ take l.place (get_or l.self.cells l.row [])
