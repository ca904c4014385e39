-- The places of rows that pass a test.
use Rattle.std.proofs.Common.{◌≡◌, ℕ, zero, suc, ◌+◌, ◌-◌, ◌<◌, ◌≤◌, ◌==◌, Bool, true, false, ◌||◌, List, [], ◌∷◌, ◌++◌, length, Option, Some, slice_get, refl, sym, ap, ◌∙◌, arith, length-append}
use Rattle.std.specs.Prelude.{if◌then◌else◌}
use Rattle.std.specs.List.{AllByRecursion, list_any}
use Rattle.std.specs.Option.{option_map_or}
use Rattle.std.proofs.lemmas.Bool.{eq-eqb, ne_eqb}
use Rattle.esql_types.specs.declared.value.Value.{Value}
use Rattle.plain_functions.specs.Values.{value_same}
use Rattle.enrich_match.specs.Matches.{MatchRow, widened}
use Rattle.enrich_match.specs.Places.{has_value, places_after, places_from, with_place}

-- The last place ---------------------------------------------------------------------------------------------------------------

at_end : (places : List ℕ) (place : ℕ) → slice_get (places ++ place ∷ []) (length places) ≡ Some place
at_end [] place = refl
at_end (first ∷ places) place = at_end places place

last_of_more : (places : List ℕ) (place : ℕ) → slice_get (places ++ place ∷ []) (length (places ++ place ∷ []) - 1) ≡ Some place
last_of_more places place =
    let long : length (places ++ place ∷ []) - 1 ≡ length places = omega (arith, length-append places (place ∷ [])) in
    ap (slice_get (places ++ place ∷ [])) long ∙ at_end places place

got_below : (end : ℕ) (places : List ℕ) (at : ℕ) → AllByRecursion (λ place. place < end) places → option_map_or (λ last. last == end) (slice_get places at) false ≡ false
got_below end [] at below = refl
got_below end (place ∷ places) zero below = ne_eqb place end (λ same. omega (arith, below.0))
got_below end (place ∷ places) (suc at) below = got_below end places at below.1

-- A place that is the last is not added again, and one that is above the others is added.
there_already : (places : List ℕ) (place : ℕ) → with_place (places ++ place ∷ []) place ≡ places ++ place ∷ []
there_already places place =
    ap (λ (found : Option ℕ). if option_map_or (λ last. last == place) found false then places ++ place ∷ [] else (places ++ place ∷ []) ++ place ∷ []) (last_of_more places place)
    ∙ ap (λ (is_last : Bool). if is_last then places ++ place ∷ [] else (places ++ place ∷ []) ++ place ∷ []) (eq-eqb place place refl)

not_there : (places : List ℕ) (place : ℕ) → AllByRecursion (λ other. other < place) places → with_place places place ≡ places ++ place ∷ []
not_there places place below = ap (λ (is_last : Bool). if is_last then places else places ++ place ∷ []) (got_below place places (length places - 1) below)

-- The places of a value after a row -------------------------------------------------------------------------------------------

module _ (value : Value) (place : ℕ) where
  abbrev is_own : Value → Bool
  is_own own = value_same value (widened own)

  after_there : (own : List Value) (places : List ℕ) → places_after value place own (places ++ place ∷ []) ≡ places ++ place ∷ []
  after_there [] places = refl
  after_there (first ∷ own) places = ap (places_after value place own) (go (is_own first)) ∙ after_there own places
    where
      go : (same : Bool) → (if same then with_place (places ++ place ∷ []) place else places ++ place ∷ []) ≡ places ++ place ∷ []
      go true = there_already places place
      go false = refl

  after_below : (own : List Value) (places : List ℕ) → AllByRecursion (λ other. other < place) places
      → places_after value place own places ≡ (if list_any is_own own then places ++ place ∷ [] else places)
  after_below [] places below = refl
  after_below (first ∷ own) places below = go (is_own first) (after_below own places below)
    where
      go : (same : Bool) → places_after value place own places ≡ (if list_any is_own own then places ++ place ∷ [] else places)
          → places_after value place own (if same then with_place places place else places) ≡ (if same || list_any is_own own then places ++ place ∷ [] else places)
      go true later = ap (places_after value place own) (not_there places place below) ∙ after_there own places
      go false later = later

-- The places of the rows that pass --------------------------------------------------------------------------------------------

module _ (test : MatchRow → Bool) where
  pub from_below : (place end : ℕ) (rows : List MatchRow) → place + length rows ≤ end → AllByRecursion (λ at. at < end) (places_from place test rows)
  from_below place end [] within = tt
  from_below place end (row ∷ rows) within = go (test row) (from_below (place + 1) end rows (omega arith))
    where
      go : (passes : Bool) → AllByRecursion (λ at. at < end) (places_from (place + 1) test rows)
          → AllByRecursion (λ at. at < end) (if passes then place ∷ places_from (place + 1) test rows else places_from (place + 1) test rows)
      go true later = (omega arith, later)
      go false later = later

  pub from_above : (low place : ℕ) (rows : List MatchRow) → low < place → AllByRecursion (λ at. low < at) (places_from place test rows)
  from_above low place [] less = tt
  from_above low place (row ∷ rows) less = go (test row) (from_above low (place + 1) rows (omega arith))
    where
      go : (passes : Bool) → AllByRecursion (λ at. low < at) (places_from (place + 1) test rows)
          → AllByRecursion (λ at. low < at) (if passes then place ∷ places_from (place + 1) test rows else places_from (place + 1) test rows)
      go true later = (less, later)
      go false later = later

  behind : (places : List ℕ) (place this that : ℕ) (passes : Bool) → this ≡ that
      → place ∷ (if passes then places ++ this ∷ [] else places) ≡ (if passes then place ∷ (places ++ that ∷ []) else place ∷ places)
  behind places place this that true same = ap (λ (last : ℕ). place ∷ (places ++ last ∷ [])) same
  behind places place this that false same = refl

  last_same : (places : List ℕ) (this that : ℕ) (passes : Bool) → this ≡ that
      → (if passes then places ++ this ∷ [] else places) ≡ (if passes then places ++ that ∷ [] else places)
  last_same places this that true same = ap (λ (last : ℕ). places ++ last ∷ []) same
  last_same places this that false same = refl

  pub from_more : (place : ℕ) (rows : List MatchRow) (row : MatchRow)
      → places_from place test (rows ++ row ∷ []) ≡ (if test row then places_from place test rows ++ (place + length rows) ∷ [] else places_from place test rows)
  from_more place [] row =
      let first : place ≡ place + 0 = omega arith in
      ap (λ (at : ℕ). if test row then at ∷ [] else []) first
  from_more place (first ∷ rows) row = go (test first) (from_more (place + 1) rows row)
    where
      last : place + 1 + length rows ≡ place + suc (length rows)
      last = omega arith

      go : (passes : Bool) → places_from (place + 1) test (rows ++ row ∷ [])
          ≡ (if test row then places_from (place + 1) test rows ++ (place + 1 + length rows) ∷ [] else places_from (place + 1) test rows)
          → (if passes then place ∷ places_from (place + 1) test (rows ++ row ∷ []) else places_from (place + 1) test (rows ++ row ∷ []))
          ≡ (if test row then (if passes then place ∷ places_from (place + 1) test rows else places_from (place + 1) test rows) ++ (place + suc (length rows)) ∷ []
          else (if passes then place ∷ places_from (place + 1) test rows else places_from (place + 1) test rows))
      go true later =
          ap (λ (places : List ℕ). place ∷ places) later
          ∙ behind (places_from (place + 1) test rows) place (place + 1 + length rows) (place + suc (length rows)) (test row) last
      go false later = later ∙ last_same (places_from (place + 1) test rows) (place + 1 + length rows) (place + suc (length rows)) (test row) last

-- a value's places are those of the rows that have it, also after one more row
pub rows_more : (value : Value) (rows : List MatchRow) (row : MatchRow)
    → places_after value (length rows) row.key (places_from 0 (has_value value) rows) ≡ places_from 0 (has_value value) (rows ++ row ∷ [])
rows_more value rows row =
    after_below value (length rows) row.key (places_from 0 (has_value value) rows) (from_below (has_value value) 0 (length rows) rows (omega arith))
    ∙ last_same (has_value value) (places_from 0 (has_value value) rows) (length rows) (0 + length rows) (has_value value row) (omega arith)
    ∙ sym (from_more (has_value value) 0 rows row)
