-- What the laws of tables say.
use Rattle.std.specs.Prelude.{ℕ, ◌≡◌, ◌≢◌, ◌<◌, List, [], Some, length, slice_get, All}
use Rattle.esql_types.specs.declared.value.Kind.{Kind}
use Rattle.table_columns.specs.declared.present.PresentCell.{PresentCell}
use Rattle.table_columns.specs.Tables.{ArePresent, row_of}

-- a row has a cell for each column
abbrev pub RowsAreWide : Type 0
RowsAreWide = (width : ℕ) (present : List PresentCell) → length (row_of width present) ≡ width

-- each present cell of a row stands in its column
abbrev pub PresentCellsStand : Type 0
PresentCellsStand = (kinds : List Kind) (present : List PresentCell) → ArePresent kinds present → All (λ (cell : PresentCell). slice_get (row_of (length kinds) present) cell.column ≡ Some cell.cell) present

-- a column of a row in which no cell is present is null
abbrev pub OthersAreNull : Type 0
OthersAreNull = (width : ℕ) (present : List PresentCell) (column : ℕ) → column < width → All (λ (cell : PresentCell). cell.column ≢ column) present → slice_get (row_of width present) column ≡ Some []
