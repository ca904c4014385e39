-- Present cells put at the ends of their columns: what each column is then.
use Rattle.std.proofs.Common.{◌≡◌, ℕ, zero, suc, ◌+◌, ◌<◌, cond, eqb, List, [], ◌∷◌, length, get_or, set, refl, sym, ap, ◌∙◌, ◌⊎◌, inl, inr, ⊎_elim, arith}
use Rattle.std.proofs.lemmas.Bool.{cases_order}
use Rattle.esql_types.specs.declared.value.Value.{Value}
use Rattle.table_columns.specs.declared.present.PresentCell.{PresentCell}
use Rattle.table_columns.specs.declared.growing.GrowingColumn.{GrowingColumn}
use Rattle.table_columns.specs.Sparse.{RiseBetween, item_of}
use Rattle.table_columns.specs.Tables.{columns_present, cells_present}
use Rattle.table_columns.specs.Placing.{changed_at, with_cell, placed}
use Rattle.table_columns.proofs.Items.{chosen, passed, item_before}

pub length-changed : {X : Type 0} (place : ℕ) (change : X → X) (xs : List X) → length (changed_at place change xs) ≡ length xs
length-changed place change [] = refl
length-changed zero change (x ∷ xs) = refl
length-changed (suc place) change (x ∷ xs) = ap suc (length-changed place change xs)

pub get-changed_same : {X : Type 0} (place : ℕ) (change : X → X) (xs : List X) (d : X) → place < length xs → get_or (changed_at place change xs) place d ≡ change (get_or xs place d)
get-changed_same place change [] d within = absurd (omega (arith, within))
get-changed_same zero change (x ∷ xs) d within = refl
get-changed_same (suc place) change (x ∷ xs) d within = get-changed_same place change xs d (omega (arith, within))

pub get-changed_other : {X : Type 0} (place : ℕ) (change : X → X) (xs : List X) (k : ℕ) (d : X) → (k ≡ place → ⊥) → get_or (changed_at place change xs) k d ≡ get_or xs k d
get-changed_other place change [] k d other = refl
get-changed_other zero change (x ∷ xs) zero d other = absurd (other refl)
get-changed_other zero change (x ∷ xs) (suc k) d other = refl
get-changed_other (suc place) change (x ∷ xs) zero d other = refl
get-changed_other (suc place) change (x ∷ xs) (suc k) d other = get-changed_other place change xs k d (λ same. other (ap suc same))

-- an item that is written in the place of another is changed there
pub set_changed : {X : Type 0} (place : ℕ) (change : X → X) (xs : List X) (old new : X) → place < length xs → old ≡ get_or xs place old → new ≡ change old → set xs place new ≡ changed_at place change xs
set_changed place change [] old new within is made = absurd (omega (arith, within))
set_changed zero change (x ∷ xs) old new within is made = λ i. (made ∙ ap change is) i ∷ xs
set_changed {X = X} (suc place) change (x ∷ xs) old new within is made = ap (λ (rest : List X). x ∷ rest) (set_changed place change xs old new (omega (arith, within)) is made)

pub length-placed : (number : ℕ) (present : List PresentCell) (columns : List GrowingColumn) → length (placed number present columns) ≡ length columns
length-placed number [] columns = refl
length-placed number (p ∷ present) columns = length-placed number present (changed_at p.column (with_cell number p.cell) columns) ∙ length-changed p.column (with_cell number p.cell) columns

-- columns before the present cells stay as they are
pub placed_before : (number from : ℕ) (present : List PresentCell) (to : ℕ) (columns : List GrowingColumn) (k : ℕ) (d : GrowingColumn) → RiseBetween from (columns_present present) to → k < from
    → get_or (placed number present columns) k d ≡ get_or columns k d
placed_before number from [] to columns k d rise before = refl
placed_before number from (p ∷ present) to columns k d rise before =
    let after = rise.0 in
    placed_before number (p.column + 1) present to (changed_at p.column (with_cell number p.cell) columns) k d rise.1 (omega arith)
    ∙ get-changed_other p.column (with_cell number p.cell) columns k d (λ same. omega arith)

-- a column has the cell of one row more, or is as it was and the cell is null
abbrev pub IsPut : ℕ → List Value → GrowingColumn → GrowingColumn → Type 0
IsPut number cell before after = (after ≡ with_cell number cell before) ⊎ ((after ≡ before) × (cell ≡ []))

-- that with the cell that is present in it
abbrev pub IsPlaced : ℕ → List PresentCell → ℕ → GrowingColumn → GrowingColumn → Type 0
IsPlaced number present k before after = IsPut number (item_of (columns_present present) (cells_present present) k) before after

pub placed_at : (number from : ℕ) (present : List PresentCell) (to : ℕ) (columns : List GrowingColumn) (k : ℕ) (d : GrowingColumn) → RiseBetween from (columns_present present) to → k < length columns
    → IsPlaced number present k (get_or columns k d) (get_or (placed number present columns) k d)
placed_at number from [] to columns k d rise within = inr (refl, refl)
placed_at number from (p ∷ present) to columns k d rise within =
    ⊎_elim
    (λ (same : p.column ≡ k). inl (at_it same))
    (λ (other : (p.column < k) ⊎ (k < p.column)). ⊎_elim
    (λ (before : p.column < k). past_it before (placed_at number (p.column + 1) present to changed k d rise.1 (omega (arith, length-changed p.column (with_cell number p.cell) columns))))
    (λ (after : k < p.column). inr (before_it after))
    other)
    (cases_order p.column k)
  where
    numbers : List ℕ
    numbers = columns_present present

    cells : List (List Value)
    cells = cells_present present

    changed : List GrowingColumn
    changed = changed_at p.column (with_cell number p.cell) columns

    at_it : p.column ≡ k → get_or (placed number present changed) k d ≡ with_cell number (cond (eqb p.column k) p.cell (item_of numbers cells k)) (get_or columns k d)
    at_it same =
        placed_before number (p.column + 1) present to changed k d rise.1 (omega arith)
        ∙ ap (λ (k : ℕ). get_or changed k d) (sym same)
        ∙ get-changed_same p.column (with_cell number p.cell) columns d (omega arith)
        ∙ ap (λ (k : ℕ). with_cell number p.cell (get_or columns k d)) same
        ∙ ap (λ (cell : List Value). with_cell number cell (get_or columns k d)) (sym (chosen p.column k p.cell (item_of numbers cells k) same))

    before_it : k < p.column → (get_or (placed number present changed) k d ≡ get_or columns k d) × (cond (eqb p.column k) p.cell (item_of numbers cells k) ≡ [])
    before_it before = (
      placed_before number (p.column + 1) present to changed k d rise.1 (omega arith) ∙ get-changed_other p.column (with_cell number p.cell) columns k d (λ same. omega arith),
      passed p.column k p.cell (item_of numbers cells k) (λ same. omega arith) ∙ item_before (p.column + 1) numbers to cells k rise.1 (omega arith),
    )

    past_it : p.column < k → IsPlaced number present k (get_or changed k d) (get_or (placed number present changed) k d) → IsPlaced number (p ∷ present) k (get_or columns k d) (get_or (placed number present changed) k d)
    past_it before is =
        let kept = get-changed_other p.column (with_cell number p.cell) columns k d (λ same. omega arith) in
        let none = passed p.column k p.cell (item_of numbers cells k) (λ same. omega arith) in
        ⊎_elim
        (λ (put : get_or (placed number present changed) k d ≡ with_cell number (item_of numbers cells k) (get_or changed k d)). inl (put ∙ (λ i. with_cell number (sym none i) (kept i))))
        (λ (left : (get_or (placed number present changed) k d ≡ get_or changed k d) × (item_of numbers cells k ≡ [])). inr (left.0 ∙ kept, none ∙ left.1))
        is
