use Rattle.std.proofs.Common.{◌≡◌, drop}
use Rattle.std.specs.Prelude.{fold}
use Rattle.stats_groups.specs.Keys.{key_hashed}
use Rattle.stats_groups.proofs.hashes.hash_cells.Given as goal

abbrev pub invariant-loop-cell : goal.invariant-loop-cell
invariant-loop-cell g l =
    fold g.H.Hasher.write l.state (key_hashed (drop l.cell-index l.cells)) ≡ fold g.H.Hasher.write l.initial.state (key_hashed l.cells)
