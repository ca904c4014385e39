use Rattle.std.proofs.Common.{◌≡◌, take}
use Rattle.lookup_join.specs.Placed.{placed_from}
use Rattle.lookup_join.proofs.placed.with_places.Given as goal

abbrev pub invariant-loop-place : goal.invariant-loop-place
invariant-loop-place l = l.placed ≡ placed_from 0 (take l.place l.rows)
