-- A table as contracts see it: a kind for each column, and the rows, each with a cell for each column.
use Rattle.std.specs.Prelude.{ℕ, List, map, Option, slice_get, slice_index_or, option_and_then, length, All}
use Rattle.std.specs.List.{AllZip}
use Rattle.esql_types.specs.declared.value.Kind.{Kind}
use Rattle.esql_types.specs.declared.value.Kind.TheVariants.{Null}
use Rattle.esql_types.specs.declared.value.Value.{Value}
use Rattle.col_blocks.specs.Cells.{IsOfKind}
use Rattle.table_columns.specs.declared.present.PresentCell.{PresentCell}
use Rattle.table_columns.specs.Sparse.{RiseBetween, items_below}

pub record TableSeen : Type 0 where
  pub kinds : List Kind
  pub rows : List (List (List Value))

-- the cell at a row and a column, if there is one
abbrev pub cell_in : List (List (List Value)) → ℕ → ℕ → Option (List Value)
cell_in rows row column = option_and_then (λ cells. slice_get cells column) (slice_get rows row)

-- the numbers of the columns of present cells
abbrev pub columns_present : List PresentCell → List ℕ
columns_present present = map (λ (cell : PresentCell). cell.column) present

abbrev pub cells_present : List PresentCell → List (List Value)
cells_present present = map (λ (cell : PresentCell). cell.cell) present

-- the row of as many columns: each has its present cell, and the others are null
abbrev pub row_of : ℕ → List PresentCell → List (List Value)
row_of width present = items_below (columns_present present) (cells_present present) width

-- the kind of a column
abbrev pub kind_at : List Kind → ℕ → Kind
kind_at kinds column = slice_index_or kinds column Null

-- present cells of a row: their columns rise, each is one of the table's, and its values are of its kind
pub record ArePresent (kinds : List Kind) (present : List PresentCell) : Type 0 where
  pub rise : RiseBetween 0 (columns_present present) (length kinds)
  pub of_kind : All (λ (cell : PresentCell). IsOfKind (kind_at kinds cell.column) cell.cell) present

-- the cells of a row: one for each column, whose values are of its kind
abbrev pub AreCells : List Kind → List (List Value) → Type 0
AreCells kinds cells = AllZip IsOfKind kinds cells
