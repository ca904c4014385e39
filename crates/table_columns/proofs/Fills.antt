-- The cells of a whole row put at the ends of their columns.
use Rattle.std.proofs.Common.{◌≡◌, ℕ, zero, suc, ◌+◌, ◌<◌, ◌≤◌, List, [], ◌∷◌, map, length, get_or, set, take, refl, sym, ap, ◌∙◌, inl, inr, subst, arith}
use Rattle.std.specs.List.{range_with_len}
use Rattle.std.proofs.lemmas.List.FromFn.{fill_by_all}
use Rattle.esql_types.specs.declared.value.Kind.{Kind}
use Rattle.esql_types.specs.declared.value.Value.{Value}
use Rattle.col_blocks.specs.Cells.{IsOfKind}
use Rattle.table_columns.specs.declared.growing.GrowingColumn.{GrowingColumn}
use Rattle.table_columns.specs.Tables.{AreCells}
use Rattle.table_columns.specs.Held.{Held, all_grown}
use Rattle.table_columns.specs.Placing.{with_filled, filled}
use Rattle.table_columns.proofs.Places.{IsPut}

pub length-filled : (number : ℕ) (cells : List (List Value)) (columns : List GrowingColumn) → length (filled number cells columns) ≡ length columns
length-filled number [] columns = refl
length-filled number (cell ∷ cells) [] = refl
length-filled number (cell ∷ cells) (column ∷ columns) = ap suc (length-filled number cells columns)

put_filled : (number : ℕ) (cell : List Value) (column : GrowingColumn) → IsPut number cell column (with_filled number cell column)
put_filled number [] column = inr (refl, refl)
put_filled number (value ∷ values) column = inl refl

pub filled_at : (number : ℕ) (cells : List (List Value)) (columns : List GrowingColumn) (k : ℕ) (d : GrowingColumn) → k < length columns → IsPut number (get_or cells k []) (get_or columns k d) (get_or (filled number cells columns) k d)
filled_at number [] columns k d within = inr (refl, refl)
filled_at number (cell ∷ cells) [] k d within = absurd (omega (arith, within))
filled_at number (cell ∷ cells) (column ∷ columns) zero d within = put_filled number cell column
filled_at number (cell ∷ cells) (column ∷ columns) (suc k) d within = filled_at number cells columns k d (omega (arith, within))

-- the columns from a place on are as they were
pub filled_past : (number : ℕ) (cells : List (List Value)) (columns : List GrowingColumn) (k : ℕ) (d : GrowingColumn) → k ≤ length cells → get_or (filled number (take k cells) columns) k d ≡ get_or columns k d
filled_past number cells columns zero d within = refl
filled_past number [] columns (suc k) d within = absurd (omega (arith, within))
filled_past number (cell ∷ cells) [] (suc k) d within = refl
filled_past number (cell ∷ cells) (column ∷ columns) (suc k) d within = filled_past number cells columns k d (omega (arith, within))

-- one column more
pub filled_more : (number : ℕ) (cells : List (List Value)) (columns : List GrowingColumn) (k : ℕ) (cell : List Value) (old new : GrowingColumn) → k < length cells → k < length columns → cell ≡ get_or cells k cell
    → old ≡ get_or (filled number (take k cells) columns) k old → new ≡ with_filled number cell old → set (filled number (take k cells) columns) k new ≡ filled number (take (k + 1) cells) columns
filled_more number [] columns k cell old new within there is read made = absurd (omega (arith, within))
filled_more number (c ∷ cells) [] k cell old new within there is read made = absurd (omega (arith, there))
filled_more number (c ∷ cells) (column ∷ columns) zero cell old new within there is read made = λ i. (made ∙ (λ j. with_filled number (is j) (read j))) i ∷ columns
filled_more number (c ∷ cells) (column ∷ columns) (suc k) cell old new within there is read made =
    let more : suc k + 1 ≡ suc (k + 1) = omega arith in
    ap (λ (rest : List GrowingColumn). with_filled number c column ∷ rest) (filled_more number cells columns k cell old new (omega (arith, within)) (omega (arith, there)) is read made)
    ∙ ap (λ (n : ℕ). filled number (take n (c ∷ cells)) (column ∷ columns)) (sym more)

pub as_many_cells : (kinds : List Kind) (cells : List (List Value)) → AreCells kinds cells → length cells ≡ length kinds
as_many_cells [] [] are = refl
as_many_cells [] (cell ∷ cells) are = absurd are
as_many_cells (kind ∷ kinds) [] are = absurd are
as_many_cells (kind ∷ kinds) (cell ∷ cells) are = ap suc (as_many_cells kinds cells are.1)

pub cell_kind : (columns : List GrowingColumn) (cells : List (List Value)) (k : ℕ) (cell : List Value) (column : GrowingColumn) → AreCells (map (λ (column : Held). column.kind) (all_grown columns)) cells → k < length cells → cell ≡ get_or cells k cell
    → column ≡ get_or columns k column → IsOfKind column.cells.kind cell
cell_kind columns [] k cell column are within is there = absurd (omega (arith, within))
cell_kind [] (c ∷ cells) k cell column are within is there = absurd are
cell_kind (column ∷ columns) (c ∷ cells) zero cell found are within is there = subst (λ (cell : List Value). IsOfKind found.cells.kind cell) (sym is) (subst (λ (column : GrowingColumn). IsOfKind column.cells.kind c) (sym there) are.0)
cell_kind (column ∷ columns) (c ∷ cells) (suc k) cell found are within is there = cell_kind columns cells k cell found are.1 (omega (arith, within)) is there

-- the cells, as those of the places below their count
pub all_cells : (cells : List (List Value)) (width : ℕ) → length cells ≡ width → map (λ (k : ℕ). get_or cells k []) (range_with_len 0 width) ≡ cells
all_cells cells width long = sym (fill_by_all (λ (k : ℕ). get_or cells k []) cells width [] long (λ k below. refl))
