-- What the fields of a `Lookup` hold.
use Rattle.std.specs.Prelude.{◌≡◌, map}
use Rattle.esql_types.specs.declared.value.Value.{Value}
use Rattle.enrich_match.specs.Lookups.{Matching}
use Rattle.enrich_match.specs.Matches.{MatchRow}
use Rattle.enrich_match.specs.Places.{has_value, places_at, places_from}
use Rattle.enrich_match.specs.declared.lookup.Lookup.TheInside.{Inside}

abbrev pub matching_of : Inside → Matching
matching_of inside = record { fields = inside.fields; rows = inside.added.list }

-- the cells of the rows, and for each value the places of the rows that have it
pub record HoldsRows (inside : Inside) : Type 0 where
  pub cells_are : inside.cells ≡ map (λ (row : MatchRow). row.fields) inside.added.list
  pub places_are : (value : Value) → places_at inside.places.entries value ≡ places_from 0 (has_value value) inside.added.list
