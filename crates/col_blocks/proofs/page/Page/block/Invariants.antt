use Rattle.std.proofs.Common.{◌≡◌, drop}
use Rattle.col_blocks.specs.Pages.{found_by, blocks_of}
use Rattle.col_blocks.proofs.page.Page.block.Given as goal

abbrev pub invariant-loop-place : goal.invariant-loop-place
invariant-loop-place l = found_by (drop l.place l.self.columns) (drop l.place (blocks_of l.self)) l.id.0 ≡ found_by l.self.columns (blocks_of l.self) l.id.0
