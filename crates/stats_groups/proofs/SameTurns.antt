-- Whether lists are the same, item by item, and what is hashed of one, item by item.
use Rattle.std.proofs.Common.{◌≡◌, ℕ, zero, suc, ◌+◌, ◌<◌, ◌≤◌, Bool, true, false, ◌&&◌, List, [], ◌∷◌, length, get_or, drop, refl, sym, ap, ◌∙◌, arith, drop-cons}
use Rattle.std.specs.Prelude.{fold}
use Rattle.std.specs.List.{flat_map}
use Rattle.std.proofs.lemmas.List.{drop_all}
use Rattle.std.proofs.lemmas.List.Sums.{fold-append}
use Rattle.esql_types.specs.declared.value.Value.{Value}
use Rattle.esql_plan.specs.declared.step.GroupColumn.{GroupColumn}
use Rattle.plan_semantics.specs.Groups.{same_list}
use Rattle.stats_groups.specs.Entries.{cells_of}

pub rest_at : {Item : Type 0} (items : List Item) (place : ℕ) (item : Item) → place < length items → item ≡ get_or items place item
    → drop place items ≡ item ∷ drop (place + 1) items
rest_at items place item within is =
    let next : suc place ≡ place + 1 = omega arith in
    drop-cons items place item within ∙ (λ i. sym is i ∷ drop (next i) items)

module _ {Item : Type 0} (same : Item → Item → Bool) where
  -- lists of different lengths differ
  pub unlike_long : (these those : List Item) → (length these ≡ length those → ⊥) → same_list same these those ≡ false
  unlike_long [] [] differ = absurd (differ refl)
  unlike_long [] (that ∷ those) differ = refl
  unlike_long (this ∷ these) [] differ = refl
  unlike_long (this ∷ these) (that ∷ those) differ =
      go (same this that) (unlike_long these those (λ alike. differ (ap suc alike)))
    where
      go : (here : Bool) → same_list same these those ≡ false → (here && same_list same these those) ≡ false
      go true later = later
      go false later = refl

  -- from a place on
  pub same_turn : (these those : List Item) (place : ℕ) (this that : Item) → place < length these → place < length those
      → this ≡ get_or these place this → that ≡ get_or those place that
      → same_list same (drop place these) (drop place those) ≡ (same this that && same_list same (drop (place + 1) these) (drop (place + 1) those))
  same_turn these those place this that within inside is are =
      λ i. same_list same (rest_at these place this within is i) (rest_at those place that inside are i)

  -- from the end on
  pub same_end : (these those : List Item) (place : ℕ) → length these ≤ place → length those ≤ place
      → same_list same (drop place these) (drop place those) ≡ true
  same_end these those place past also = λ i. same_list same (drop_all place these past i) (drop_all place those also i)

module _ {State Item : Type 0} (write : State → List ℕ → State) (hashed : Item → List (List ℕ)) where
  pub hashed_turn : (items : List Item) (place : ℕ) (item : Item) (old new : State) → place < length items → item ≡ get_or items place item
      → new ≡ fold write old (hashed item)
      → fold write new (flat_map hashed (drop (place + 1) items)) ≡ fold write old (flat_map hashed (drop place items))
  hashed_turn items place item old new within is made =
      let later = flat_map hashed (drop (place + 1) items) in
      ap (λ state. fold write state later) made
      ∙ sym (fold-append write old (hashed item) later)
      ∙ ap (λ these. fold write old (flat_map hashed these)) (sym (rest_at items place item within is))

-- the cells of a row from a column on
pub cells_rest : (columns : List GroupColumn) (row : List (List Value)) (place : ℕ) → drop place (cells_of columns row) ≡ cells_of (drop place columns) row
cells_rest columns row zero = refl
cells_rest [] row (suc place) = refl
cells_rest (column ∷ columns) row (suc place) = cells_rest columns row place

pub cells_long : (columns : List GroupColumn) (row : List (List Value)) → length (cells_of columns row) ≡ length columns
cells_long [] row = refl
cells_long (column ∷ columns) row = ap suc (cells_long columns row)

pub cell_there : (columns : List GroupColumn) (row : List (List Value)) (place : ℕ) (column : GroupColumn) → place < length columns → column ≡ get_or columns place column
    → get_or row column.id.0 [] ≡ get_or (cells_of columns row) place (get_or row column.id.0 [])
cell_there [] row place column within is = absurd (omega (arith, within))
cell_there (first ∷ columns) row zero column within is = ap (λ (one : GroupColumn). get_or row one.id.0 []) is
cell_there (first ∷ columns) row (suc place) column within is = cell_there columns row place column (omega (arith, within)) is
