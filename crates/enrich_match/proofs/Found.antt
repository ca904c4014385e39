-- The places that are found for a cell are those of the rows that match it.
use Rattle.std.proofs.Common.{◌≡◌, ℕ, ◌+◌, ◌<◌, ◌≤◌, Bool, true, false, ◌||◌, List, [], ◌∷◌, ◌++◌, length, map, filter, refl, sym, ap, ◌∙◌, arith}
use Rattle.std.specs.Prelude.{if◌then◌else◌, nat_eq, slice_index_or}
use Rattle.std.specs.List.{AllByRecursion, flat_map}
use Rattle.std.proofs.lemmas.List.{append-nil, append_assoc, get_or_at}
use Rattle.std.proofs.lemmas.List.Folds.{list_any-append}
use Rattle.esql_types.specs.declared.value.Value.{Value}
use Rattle.enrich_match.specs.Matches.{MatchRow, is_match, matched_cell, widened}
use Rattle.enrich_match.specs.Places.{IsEachOnce, field_at, gathered, has_value, places_at, places_from}
use Rattle.enrich_match.proofs.Once.{Rises, each_once, has}
use Rattle.enrich_match.proofs.Rows.{from_above}

-- The places of rows that pass one of two tests ------------------------------------------------------------------------------

both_pass : (here first second : Bool) → (here || (first || second)) ≡ ((here || first) || (here || second))
both_pass true first second = refl
both_pass false first second = refl

second_passes : (here first second : Bool) → (here || (first || second)) ≡ (first || (here || second))
second_passes true true second = refl
second_passes true false second = refl
second_passes false first second = refl

first_passes : (here first second : Bool) → (here || (first || second)) ≡ ((here || first) || second)
first_passes true first second = refl
first_passes false first second = refl

module _ (first second : MatchRow → Bool) (at : ℕ) where
  abbrev either : MatchRow → Bool
  either row = first row || second row

  has_either : (place : ℕ) (rows : List MatchRow) → has (places_from place either rows) at ≡ (has (places_from place first rows) at || has (places_from place second rows) at)
  has_either place [] = refl
  has_either place (row ∷ rows) =
      go (first row) (second row) (places_from (place + 1) either rows) (places_from (place + 1) first rows) (places_from (place + 1) second rows) (has_either (place + 1) rows)
    where
      go : (one two : Bool) (all ones twos : List ℕ) → has all at ≡ (has ones at || has twos at)
          → has (if one || two then place ∷ all else all) at ≡ (has (if one then place ∷ ones else ones) at || has (if two then place ∷ twos else twos) at)
      go true true all ones twos later = ap (λ (more : Bool). nat_eq at place || more) later ∙ both_pass (nat_eq at place) (has ones at) (has twos at)
      go true false all ones twos later = ap (λ (more : Bool). nat_eq at place || more) later ∙ first_passes (nat_eq at place) (has ones at) (has twos at)
      go false true all ones twos later = ap (λ (more : Bool). nat_eq at place || more) later ∙ second_passes (nat_eq at place) (has ones at) (has twos at)
      go false false all ones twos later = later

pub none_from : (place : ℕ) (rows : List MatchRow) → places_from place (λ row. false) rows ≡ []
none_from place [] = refl
none_from place (row ∷ rows) = none_from (place + 1) rows

from_same : (this that : MatchRow → Bool) → ((row : MatchRow) → this row ≡ that row) → (place : ℕ) (rows : List MatchRow) → places_from place this rows ≡ places_from place that rows
from_same this that same place [] = refl
from_same this that same place (row ∷ rows) =
    λ i. if same row i then place ∷ from_same this that same (place + 1) rows i else from_same this that same (place + 1) rows i

or_false : (answer : Bool) → answer ≡ (answer || false)
or_false true = refl
or_false false = refl

rising_more : (place : ℕ) (places : List ℕ) (passes : Bool) → AllByRecursion (λ later. place < later) places → Rises places → Rises (if passes then place ∷ places else places)
unfolding Rises
rising_more place places true above rises = (above, rises)
rising_more place places false above rises = rises

rising : (test : MatchRow → Bool) (place : ℕ) (rows : List MatchRow) → Rises (places_from place test rows)
unfolding Rises
rising test place [] = tt
rising test place (row ∷ rows) =
    rising_more place (places_from (place + 1) test rows) (test row) (from_above test place (place + 1) rows (omega arith)) (rising test (place + 1) rows)

-- The places of a cell -------------------------------------------------------------------------------------------------------

module _ (entries : List (Value × List ℕ)) (rows : List MatchRow) (held : (value : Value) → places_at entries value ≡ places_from 0 (has_value value) rows) where
  has_matches : (at : ℕ) (cell : List Value) → has (gathered entries cell) at ≡ has (places_from 0 (is_match cell) rows) at
  has_matches at [] = sym (ap (λ (places : List ℕ). has places at) (none_from 0 rows))
  has_matches at (value ∷ cell) =
      list_any-append (nat_eq at) (places_at entries (widened value)) (gathered entries cell)
      ∙ (λ i. has (held (widened value) i) at || has_matches at cell i)
      ∙ sym (has_either (has_value (widened value)) (is_match cell) at 0 rows)

  single_found : (cell : List Value) → length cell ≤ 1 → gathered entries cell ≡ places_from 0 (is_match cell) rows
  single_found [] short = sym (none_from 0 rows)
  single_found (value ∷ []) short =
      append-nil (places_at entries (widened value))
      ∙ held (widened value)
      ∙ from_same (has_value (widened value)) (is_match (value ∷ [])) (λ row. or_false (has_value (widened value) row)) 0 rows
  single_found (value ∷ second ∷ cell) short = absurd (omega (arith, short))

  pub all_found : (cell : List Value) (found : List ℕ) → (length cell ≤ 1 → found ≡ gathered entries cell) → (1 < length cell → IsEachOnce (gathered entries cell) found)
      → found ≡ places_from 0 (is_match cell) rows
  all_found [] found single several = single (omega arith) ∙ single_found [] (omega arith)
  all_found (value ∷ []) found single several = single (omega arith) ∙ single_found (value ∷ []) (omega arith)
  all_found (value ∷ second ∷ cell) found single several =
      let whole : List Value = value ∷ second ∷ cell in
      each_once (gathered entries whole) found (places_from 0 (is_match whole) rows) (several (omega arith)) (rising (is_match whole) 0 rows) (λ at. has_matches at whole)

-- The cells of places --------------------------------------------------------------------------------------------------------

abbrev fields_of : List MatchRow → List (List (List Value))
fields_of rows = map (λ (row : MatchRow). row.fields) rows

module _ (test : MatchRow → Bool) (field : ℕ) where
  abbrev given : MatchRow → List Value
  given row = slice_index_or row.fields field []

  length_more : (cells : List (List (List Value))) (last : List (List Value)) → length (cells ++ last ∷ []) ≡ length cells + 1
  length_more [] last = refl
  length_more (first ∷ cells) last = let rest = length_more cells last in omega (arith, rest)

  cells_behind : (before : List (List (List Value))) (place : ℕ) (rows : List MatchRow) → length before ≡ place
      → flat_map (field_at (before ++ fields_of rows) field) (places_from place test rows) ≡ flat_map given (filter test rows)
  cells_behind before place [] long = refl
  cells_behind before place (row ∷ rows) long =
      go (test row) (ap (λ (cells : List (List Value)). slice_index_or cells field []) (get_or_at before row.fields (fields_of rows) [] place long))
      (ap (λ (cells : List (List (List Value))). flat_map (field_at cells field) (places_from (place + 1) test rows)) (sym (append_assoc before (row.fields ∷ []) (fields_of rows)))
      ∙ cells_behind (before ++ row.fields ∷ []) (place + 1) rows (length_more before row.fields ∙ ap (λ (count : ℕ). count + 1) long))
    where
      go : (passes : Bool) → field_at (before ++ fields_of (row ∷ rows)) field place ≡ given row
          → flat_map (field_at (before ++ fields_of (row ∷ rows)) field) (places_from (place + 1) test rows) ≡ flat_map given (filter test rows)
          → flat_map (field_at (before ++ fields_of (row ∷ rows)) field) (if passes then place ∷ places_from (place + 1) test rows else places_from (place + 1) test rows)
          ≡ flat_map given (if passes then row ∷ filter test rows else filter test rows)
      go true here later = λ i. here i ++ later i
      go false here later = later

pub cell_found : (rows : List MatchRow) (cell : List Value) (field : ℕ)
    → flat_map (field_at (fields_of rows) field) (places_from 0 (is_match cell) rows) ≡ matched_cell rows cell field
cell_found rows cell field = cells_behind (is_match cell) field [] 0 rows refl

-- null matches no row
pub null_found : (rows : List MatchRow) (field : ℕ) → matched_cell rows [] field ≡ []
null_found [] field = refl
null_found (row ∷ rows) field = null_found rows field
