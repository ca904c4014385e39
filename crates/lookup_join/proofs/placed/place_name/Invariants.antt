use Rattle.std.proofs.Common.{◌≡◌, ◌++◌, ◌∷◌, []}
use Rattle.std.specs.String.{string_bytes}
use Rattle.lookup_join.specs.Placed.{free_run, place_name}
use Rattle.lookup_join.proofs.placed.place_name.Given as goal

abbrev pub invariant-loop-more : goal.invariant-loop-more
invariant-loop-more l = record {
  left : free_run l.more (string_bytes l.name) l.columns ≡ place_name l.columns;
  alike : string_bytes l.name ++ 35 ∷ [] ≡ 35 ∷ string_bytes l.name;
}

abbrev pub decreases-loop-more : goal.decreases-loop-more
decreases-loop-more l = l.more
