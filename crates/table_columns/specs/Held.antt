-- Columns as they are kept: the cells of the rows that have one, and the numbers of these rows.
use Rattle.std.specs.Prelude.{ℕ, ◌≡◌, List, [], map, length, All}
use Rattle.std.specs.List.{range_with_len}
use Rattle.esql_types.specs.declared.value.Kind.{Kind}
use Rattle.esql_types.specs.declared.value.Value.{Value}
use Rattle.table_columns.specs.declared.held.HeldColumn.{HeldColumn}
use Rattle.table_columns.specs.declared.growing.GrowingColumn.{GrowingColumn}
use Rattle.table_columns.specs.Sparse.{RiseBetween, item_of}
use Rattle.table_columns.specs.Tables.{TableSeen}

pub record Held : Type 0 where
  pub kind : Kind
  pub numbers : List ℕ
  pub cells : List (List Value)

-- the row numbers rise and are before the count of rows, and each has its cell
pub record IsHeld (count : ℕ) (column : Held) : Type 0 where
  pub rise : RiseBetween 0 column.numbers count
  pub paired : length column.numbers ≡ length column.cells

abbrev pub AreHeld : ℕ → List Held → Type 0
AreHeld count columns = All (IsHeld count) columns

-- the cell of a row in a column
abbrev pub held_cell : ℕ → Held → List Value
held_cell row column = item_of column.numbers column.cells row

-- the cells of a row, one of each column
abbrev pub held_row : List Held → ℕ → List (List Value)
held_row columns row = map (held_cell row) columns

-- the table of columns with as many rows
abbrev pub table_of : ℕ → List Held → TableSeen
table_of count columns = record { kinds = map (λ (column : Held). column.kind) columns; rows = map (held_row columns) (range_with_len 0 count) }

-- what is kept in a column of a table
abbrev pub held : HeldColumn → Held
held column = record { kind = column.cells.kind; numbers = column.numbers; cells = column.cells.cells }

abbrev pub all_held : List HeldColumn → List Held
all_held columns = map held columns

-- what is kept in a column that is being built
abbrev pub grown : GrowingColumn → Held
grown column = record { kind = column.cells.kind; numbers = column.numbers; cells = column.cells.cells }

abbrev pub all_grown : List GrowingColumn → List Held
all_grown columns = map grown columns

-- no row of the column is open
abbrev pub IsClosed : GrowingColumn → Type 0
IsClosed column = column.cells.row ≡ []

abbrev pub AreClosed : List GrowingColumn → Type 0
AreClosed columns = All IsClosed columns
