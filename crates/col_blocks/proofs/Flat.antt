-- Cells of one value each, of at most one each, and of none.
use Rattle.std.proofs.Common.{◌≡◌, ℕ, zero, suc, ◌+◌, ◌-◌, ◌<◌, ◌≤◌, Bool, true, false, cond, ◌&&◌, leb, eqb, List, [], ◌∷◌, ◌++◌, map, length, get_or, take, drop, replicate, refl, sym, ap, ◌∙◌, subst, arith, length-drop}
use Rattle.std.specs.Prelude.{nat_lt}
use Rattle.std.specs.List.{slice_range, list_all}
use Rattle.std.proofs.lemmas.Bool.{and_parts, leb-true, eqb-true, lt-ltb, le-ltb}
use Rattle.std.proofs.lemmas.List.{length-map, take_all, map-append, take-append-drop, drop-drop, take-take, drop-take, nil_from_length}
use Rattle.esql_types.specs.declared.value.Kind.{Kind}
use Rattle.esql_types.specs.declared.value.Kind.TheVariants.{Integer, Long as LongKind, Boolean as BooleanKind, Keyword as KeywordKind, Null}
use Rattle.esql_types.specs.declared.value.Value.{Value}
use Rattle.col_blocks.specs.declared.form.BlockForm.{BlockForm}
use Rattle.col_blocks.specs.declared.form.BlockForm.TheVariants.{Vector as VectorForm, Nullable as NullableForm, Multi as MultiForm}
use Rattle.col_blocks.specs.declared.values.Values.{Values}
use Rattle.col_blocks.specs.declared.values.Values.TheVariants.{Integers, Longs, Booleans, Keywords, Nulls}
use Rattle.col_blocks.specs.Cells.{blank, first_or}
use Rattle.col_blocks.specs.Pieces.{pieces, last_end, Rises, filled}
use Rattle.col_blocks.specs.Rows.{singles, where_valid, IsFlat}
use Rattle.col_blocks.specs.Seen.{form_by}
use Rattle.col_blocks.specs.Stored.{values_of, kind_of}
use Rattle.col_blocks.proofs.AtRow.{length-range}
use Rattle.col_blocks.proofs.Cuts.{length-pieces, rises_bound, last_at_most}
use Rattle.col_blocks.proofs.FirstOf.{length-filled}

-- at most one value each

one_cell : (other : Value) (cell : List Value) (some : Bool) → leb (length cell) 1 ≡ true → some ≡ nat_lt 0 (length cell) → cond {A = List Value} some (first_or other cell ∷ []) [] ≡ cell
one_cell other [] some few is = ap (λ (some : Bool). cond {A = List Value} some (other ∷ []) []) is
one_cell other (value ∷ []) some few is = ap (λ (some : Bool). cond {A = List Value} some (value ∷ []) []) is
one_cell other (value ∷ more ∷ cell) some few is = let below = leb-true (length (value ∷ more ∷ cell)) 1 few in absurd (omega arith)

some_by_ends : (from end count : ℕ) → count ≡ end - from → nat_lt from end ≡ nat_lt 0 count
some_by_ends from end zero is = le-ltb from end (omega arith)
some_by_ends from end (suc count) is = lt-ltb from end (omega arith) ∙ sym (lt-ltb 0 (suc count) (omega arith))

where_first : (other : Value) (values : List Value) (from : ℕ) (ends : List ℕ) → Rises from ends (length values) → list_all (λ cell. leb (length cell) 1) (pieces values from ends) ≡ true
    → where_valid (filled from ends) (map (first_or other) (pieces values from ends)) ≡ pieces values from ends
where_first other values from [] rises few = refl
where_first other values from (end ∷ ends) rises few =
    let both = and_parts (leb (length (slice_range values from end)) 1) (list_all (λ cell. leb (length cell) 1) (pieces values end ends)) few in
    let long = length-range values from end rises.0 (rises_bound end ends (length values) rises.1) in
    λ i. one_cell other (slice_range values from end) (nat_lt from end) both.0 (some_by_ends from end (length (slice_range values from end)) long) i ∷ where_first other values end ends rises.1 both.1 i

module _ (kind : Kind) (values new : List Value) (ends : List ℕ) (valid : List Bool) (rises : Rises 0 ends (length values)) (few : list_all (λ cell. leb (length cell) 1) (pieces values 0 ends) ≡ true)
    (mask : valid ≡ filled 0 ends) (spread : new ≡ map (first_or (blank kind)) (pieces values 0 ends)) where
  pub flat_cells : where_valid valid new ≡ pieces values 0 ends
  flat_cells = (λ i. where_valid (mask i) (spread i)) ∙ where_first (blank kind) values 0 ends rises few

  pub flat_fits : IsFlat kind valid new
  flat_fits = record {
    as_long = ap length mask ∙ length-filled 0 ends ∙ sym (length-pieces values 0 ends) ∙ sym (length-map (pieces values 0 ends) (first_or (blank kind))) ∙ ap length (sym spread);
    blanks = spread ∙ ap (map (first_or (blank kind))) (sym flat_cells);
  }

-- one value each

range_split : (values : List Value) (from middle end : ℕ) → from ≤ middle → middle ≤ end → slice_range values from end ≡ slice_range values from middle ++ slice_range values middle end
range_split values from middle end first second =
    let m = middle - from in
    let n = end - middle in
    let all : end - from ≡ m + n = omega arith in
    let there : middle ≡ from + m = omega arith in
    let whole = take-append-drop m (take (m + n) (drop from values)) in
    let short = take-take m (m + n) (drop from values) (omega arith) in
    let rest = drop-take m n (drop from values) ∙ ap (take n) (drop-drop m from values ∙ ap (λ (k : ℕ). drop k values) (sym there)) in
    ap (λ (k : ℕ). take k (drop from values)) all ∙ sym whole ∙ (λ i. short i ++ rest i)

single_cell : (cell : List Value) → eqb (length cell) 1 ≡ true → singles cell ≡ cell ∷ []
single_cell [] one = absurd cc
single_cell (value ∷ []) one = refl
single_cell (value ∷ more ∷ cell) one = let is = eqb-true (length (value ∷ more ∷ cell)) 1 one in absurd (omega arith)

rises_to : (from : ℕ) (ends : List ℕ) (to : ℕ) → Rises from ends to → from ≤ last_end from ends
rises_to from [] to rises = omega arith
rises_to from (end ∷ ends) to rises = omega (arith, rises.0, rises_to end ends to rises.1)

nothing_between : (values : List Value) (from : ℕ) → slice_range values from from ≡ []
nothing_between values from = let none : from - from ≡ 0 = omega arith in ap (λ (k : ℕ). take k (drop from values)) none

single_pieces : (values : List Value) (from : ℕ) (ends : List ℕ) → Rises from ends (length values) → list_all (λ cell. eqb (length cell) 1) (pieces values from ends) ≡ true
    → singles (slice_range values from (last_end from ends)) ≡ pieces values from ends
single_pieces values from [] rises one = ap singles (nothing_between values from)
single_pieces values from (end ∷ ends) rises one =
    let both = and_parts (eqb (length (slice_range values from end)) 1) (list_all (λ cell. eqb (length cell) 1) (pieces values end ends)) one in
    ap singles (range_split values from end (last_end end ends) rises.0 (rises_to end ends (length values) rises.1))
    ∙ map-append (λ (value : Value). value ∷ []) (slice_range values from end) (slice_range values end (last_end end ends))
    ∙ (λ i. single_cell (slice_range values from end) both.0 i ++ single_pieces values end ends rises.1 both.1 i)

pub single_cells : (values : List Value) (ends : List ℕ) → Rises 0 ends (length values) → last_end 0 ends ≡ length values → list_all (λ cell. eqb (length cell) 1) (pieces values 0 ends) ≡ true
    → singles values ≡ pieces values 0 ends
single_cells values ends rises whole one =
    ap singles (sym (take_all (last_end 0 ends - 0) values (omega arith))) ∙ single_pieces values 0 ends rises one

-- no values

drop_nothing : (n : ℕ) → drop {A = Value} n [] ≡ []
drop_nothing zero = refl
drop_nothing (suc n) = refl

take_nothing : (n : ℕ) → take {A = Value} n [] ≡ []
take_nothing zero = refl
take_nothing (suc n) = refl

no_pieces : (from : ℕ) (ends : List ℕ) → pieces {X = Value} [] from ends ≡ replicate (length ends) []
no_pieces from [] = refl
no_pieces from (end ∷ ends) = λ i. (ap (take (end - from)) (drop_nothing from) ∙ take_nothing (end - from)) i ∷ no_pieces end ends i

null_values : (values : Values) → kind_of values ≡ Null → values_of values ≡ []
null_values (Integers numbers) is = absurd cc
null_values (Longs numbers) is = absurd cc
null_values (Booleans truths) is = absurd cc
null_values (Keywords texts) is = absurd cc
null_values Nulls is = refl

pub null_cells : (values : Values) (ends : List ℕ) → kind_of values ≡ Null → pieces (values_of values) 0 ends ≡ replicate (length ends) []
null_cells values ends is = ap (λ values. pieces values 0 ends) (null_values values is) ∙ no_pieces 0 ends

-- the form by the kind and the cells

pub form_other : (kind : Kind) (cells : List (List Value)) → (kind ≡ Null → ⊥)
    → form_by kind cells ≡ cond {A = BlockForm} (list_all (λ cell. eqb (length cell) 1) cells) VectorForm (cond {A = BlockForm} (list_all (λ cell. leb (length cell) 1) cells) NullableForm MultiForm)
form_other Integer cells other = refl
form_other LongKind cells other = refl
form_other BooleanKind cells other = refl
form_other KeywordKind cells other = refl
form_other Null cells other = absurd (other refl)
