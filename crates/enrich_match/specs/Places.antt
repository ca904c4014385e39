-- Where the rows stand that have a value, or one of several.
use Rattle.std.specs.Prelude.{ℕ, ◌+◌, ◌-◌, ◌==◌, Bool, false, List, [], ◌∷◌, ◌++◌, length, slice_get, slice_index_or, if◌then◌else◌}
use Rattle.std.specs.List.{flat_map, list_any, Contains}
use Rattle.std.specs.List.Sorted.{IsStrictlyIncreasing}
use Rattle.std.specs.Map.{lookup}
use Rattle.std.specs.Option.{option_map_or, unwrap_or}
use Rattle.esql_types.specs.declared.value.Value.{Value}
use Rattle.plain_functions.specs.Values.{value_same}
use Rattle.enrich_match.specs.Matches.{MatchRow, widened}

-- the row has a value that is this one once it is widened
abbrev pub has_value : Value → MatchRow → Bool
has_value value row = list_any (λ own. value_same value (widened own)) row.key

-- the places of the rows that pass the test, of which the first stands at this place
abbrev pub places_from : ℕ → (MatchRow → Bool) → List MatchRow → List ℕ
places_from place test [] = []
places_from place test (row ∷ rows) = if test row then place ∷ places_from (place + 1) test rows else places_from (place + 1) test rows

-- the places that are kept for a value
abbrev pub places_at : List (Value × List ℕ) → Value → List ℕ
places_at entries value = unwrap_or (lookup (value_same value) entries) []

-- one more place behind places, unless it is the last of them
abbrev pub with_place : List ℕ → ℕ → List ℕ
with_place places place = if option_map_or (λ last. last == place) (slice_get places (length places - 1)) false then places else places ++ place ∷ []

-- the places of a value once a row's place is kept for each value of its own
abbrev pub places_after : Value → ℕ → List Value → List ℕ → List ℕ
places_after value place [] places = places
places_after value place (own ∷ more) places =
    places_after value place more (if value_same value (widened own) then with_place places place else places)

-- the places of each of a cell's values, one after another
abbrev pub gathered : List (Value × List ℕ) → List Value → List ℕ
gathered entries cell = flat_map (λ value. places_at entries (widened value)) cell

-- the same places, each once and in order
pub record IsEachOnce (others places : List ℕ) : Type 0 where
  pub rises : IsStrictlyIncreasing places
  pub keeps : (place : ℕ) → Contains others place → Contains places place
  pub adds_none : (place : ℕ) → Contains places place → Contains others place

-- a field's values of the row at a place
abbrev pub field_at : List (List (List Value)) → ℕ → ℕ → List Value
field_at rows field place = slice_index_or (slice_index_or rows place []) field []
