use Rattle.std.proofs.Common.{◌≡◌, [], take}
use Rattle.col_blocks.specs.Kept.{scattered}
use Rattle.col_blocks.proofs.Keeps.{set_count}
use Rattle.col_blocks.proofs.block.Block.scatter.Given as goal

abbrev pub invariant-loop-place : goal.invariant-loop-place
invariant-loop-place l = record {
  built : l.builder ≡ record { kind = l.self.kind; cells = scattered (take l.place l.places) l.self.cells; row = [] };
  counted : l.taken ≡ set_count (take l.place l.places);
}
