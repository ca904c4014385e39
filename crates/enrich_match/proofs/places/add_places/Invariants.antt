use Rattle.std.proofs.Common.{◌≡◌, drop}
use Rattle.esql_types.specs.declared.value.Value.{Value}
use Rattle.enrich_match.specs.Places.{places_after, places_at}
use Rattle.enrich_match.proofs.places.add_places.Given as goal

abbrev pub invariant-loop-value : goal.invariant-loop-value
invariant-loop-value l =
    (value : Value) → places_after value l.place (drop l.value-index l.key) (places_at l.places.entries value) ≡ places_after value l.place l.key (places_at l.initial.places.entries value)
