-- One present cell, and its column.
use Rattle.std.proofs.Common.{◌≡◌, ℕ, zero, suc, ◌+◌, ◌<◌, List, [], ◌∷◌, map, length, get_or, set, drop, refl, sym, ap, ◌∙◌, subst, arith}
use Rattle.std.proofs.lemmas.List.{length-map, at_drop_more}
use Rattle.esql_types.specs.declared.value.Kind.{Kind}
use Rattle.esql_types.specs.declared.value.Value.{Value}
use Rattle.col_blocks.specs.Cells.{IsOfKind}
use Rattle.table_columns.specs.declared.present.PresentCell.{PresentCell}
use Rattle.table_columns.specs.declared.growing.GrowingColumn.{GrowingColumn}
use Rattle.table_columns.specs.Tables.{columns_present, kind_at, ArePresent}
use Rattle.table_columns.specs.Held.{Held, all_grown, AreClosed}
use Rattle.table_columns.specs.Placing.{changed_at, with_cell, placed}
use Rattle.table_columns.proofs.Rises.{rises_below}
use Rattle.table_columns.proofs.Places.{set_changed}

get_column : (present : List PresentCell) (k : ℕ) (p : PresentCell) → k < length present → p ≡ get_or present k p → get_or (columns_present present) k 0 ≡ p.column
get_column [] k p within is = absurd (omega (arith, within))
get_column (q ∷ present) zero p within is = ap (λ (p : PresentCell). p.column) (sym is)
get_column (q ∷ present) (suc k) p within is = get_column present k p (omega (arith, within)) is

pub present_within : (kinds : List Kind) (present : List PresentCell) (k : ℕ) (p : PresentCell) → ArePresent kinds present → k < length present → p ≡ get_or present k p → p.column < length kinds
present_within kinds present k p are within is =
    let column = get_column present k p within is in
    let below = rises_below 0 (columns_present present) (length kinds) k (omega (arith, length-map present (λ (p : PresentCell). p.column))) are.rise in
    omega arith

pub present_kind : (kinds : List Kind) (present : List PresentCell) (k : ℕ) (p : PresentCell) → ArePresent kinds present → k < length present → p ≡ get_or present k p → IsOfKind (kind_at kinds p.column) p.cell
present_kind kinds present k p are within is = subst (λ (p : PresentCell). IsOfKind (kind_at kinds p.column) p.cell) (sym is) (are.of_kind k p within)

kinds_of : List GrowingColumn → List Kind
kinds_of columns = map (λ (column : Held). column.kind) (all_grown columns)

pub many_kinds : (columns : List GrowingColumn) → length (map (λ (column : Held). column.kind) (all_grown columns)) ≡ length columns
many_kinds [] = refl
many_kinds (column ∷ columns) = ap suc (many_kinds columns)

pub kind_of_column : (columns : List GrowingColumn) (place : ℕ) (column : GrowingColumn) → place < length columns → column ≡ get_or columns place column
    → kind_at (map (λ (column : Held). column.kind) (all_grown columns)) place ≡ column.cells.kind
kind_of_column [] place column within is = absurd (omega (arith, within))
kind_of_column (c ∷ columns) zero column within is = ap (λ (c : GrowingColumn). c.cells.kind) (sym is)
kind_of_column (c ∷ columns) (suc place) column within is = kind_of_column columns place column (omega (arith, within)) is

-- the kinds stay, and no row is left open
pub changed_kinds : (place number : ℕ) (cell : List Value) (columns : List GrowingColumn)
    → map (λ (column : Held). column.kind) (all_grown (changed_at place (with_cell number cell) columns)) ≡ map (λ (column : Held). column.kind) (all_grown columns)
changed_kinds place number cell [] = refl
changed_kinds zero number cell (column ∷ columns) = refl
changed_kinds (suc place) number cell (column ∷ columns) = ap (λ (rest : List Kind). column.cells.kind ∷ rest) (changed_kinds place number cell columns)

pub changed_closed : (place number : ℕ) (cell : List Value) (columns : List GrowingColumn) → AreClosed columns → AreClosed (changed_at place (with_cell number cell) columns)
changed_closed place number cell [] closed k d within = closed k d within
changed_closed zero number cell (column ∷ columns) closed zero d within = closed zero d (omega arith)
changed_closed zero number cell (column ∷ columns) closed (suc k) d within = closed (suc k) d (omega (arith, within))
changed_closed (suc place) number cell (column ∷ columns) closed zero d within = closed zero d (omega arith)
changed_closed (suc place) number cell (column ∷ columns) closed (suc k) d within = changed_closed place number cell columns (λ k d within. closed (suc k) d (omega arith)) k d (omega (arith, within))

-- one present cell more
module _ (number k : ℕ) (present : List PresentCell) (p : PresentCell) (columns : List GrowingColumn) (old new : GrowingColumn) (within : k < length present) (is : p ≡ get_or present k p)
    (there : p.column < length columns) (read : old ≡ get_or columns p.column old) (made : new ≡ with_cell number p.cell old) where
  changed : set columns p.column new ≡ changed_at p.column (with_cell number p.cell) columns
  changed = set_changed p.column (with_cell number p.cell) columns old new there read made

  pub more_rest : placed number (drop (k + 1) present) (set columns p.column new) ≡ placed number (drop k present) columns
  more_rest =
      ap (placed number (drop (k + 1) present)) changed
      ∙ ap (λ (p : PresentCell). placed number (p ∷ drop (k + 1) present) columns) is
      ∙ sym (at_drop_more (λ (rest : List PresentCell). placed number rest columns) present k p within)

  pub more_closed : AreClosed columns → AreClosed (set columns p.column new)
  more_closed closed = subst AreClosed (sym changed) (changed_closed p.column number p.cell columns closed)

  pub more_kinds : map (λ (column : Held). column.kind) (all_grown (set columns p.column new)) ≡ map (λ (column : Held). column.kind) (all_grown columns)
  more_kinds = ap (λ (columns : List GrowingColumn). map (λ (column : Held). column.kind) (all_grown columns)) changed ∙ changed_kinds p.column number p.cell columns
