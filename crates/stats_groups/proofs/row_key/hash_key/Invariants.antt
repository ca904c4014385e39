use Rattle.std.proofs.Common.{◌≡◌, drop}
use Rattle.std.specs.Prelude.{fold}
use Rattle.stats_groups.specs.Entries.{cells_of}
use Rattle.stats_groups.specs.Keys.{key_hashed}
use Rattle.stats_groups.proofs.row_key.hash_key.Given as goal

abbrev pub invariant-loop-group : goal.invariant-loop-group
invariant-loop-group g l =
    fold g.H.Hasher.write l.state (key_hashed (cells_of (drop l.group-index l.key.groups.now) l.key.row.now))
    ≡ fold g.H.Hasher.write l.initial.state (key_hashed (cells_of l.key.groups.now l.key.row.now))
