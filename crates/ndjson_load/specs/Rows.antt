-- The rows that the lines of a file give a table.
use Rattle.std.specs.Prelude.{ℕ, ◌-◌, ◌==◌, ◌||◌, Bool, List, [], ◌∷◌, length, take, map, slice_index, Option, Some, None, Result, Ok, Err, if◌then◌else◌}
use Rattle.std.specs.Option.{option_to_list}
use Rattle.std.specs.List.{list_all, enumerate_from}
use Rattle.serde_json.specs.Data.{Data, null, boolean, number, string, array, object}
use Rattle.esql_types.specs.declared.value.Kind.{Kind}
use Rattle.esql_types.specs.declared.value.Kind.TheVariants.{Integer, Long, Boolean, Keyword, Null}
use Rattle.esql_types.specs.declared.value.Value.{Value as CellValue}
use Rattle.ndjson_load.specs.Accepted.{accepted}
use Rattle.ndjson_load.specs.Documents.{document_of}
use Rattle.ndjson_load.specs.Gathering.{Item, value, explicit_null, fault, gather}
use Rattle.ndjson_load.specs.Joining.{join_all}
use Rattle.ndjson_load.specs.declared.cause.RowCause.{RowCause}
use Rattle.ndjson_load.specs.declared.cause.RowCause.TheVariants.{NotJson, NotObject, BadNumber, BadBoolean, BadText}
use Rattle.ndjson_load.specs.declared.column.MappedColumn.{MappedColumn}

-- ---- a cell

-- why a value that a kind does not accept is bad
abbrev pub bad_value : Kind → RowCause
bad_value Integer = BadNumber
bad_value Long = BadNumber
bad_value Boolean = BadBoolean
bad_value Keyword = BadText
bad_value Null = BadText

abbrev pub taken_value : MappedColumn → Option CellValue → Result (List CellValue) RowCause
taken_value column (Some accepted_value) = Ok (accepted_value ∷ [])
taken_value column None = if column.ignore_malformed then Ok [] else Err (bad_value column.column.kind)

-- What a column takes of an item. A value that its kind does not accept gives nothing where the column ignores malformed
-- values, else it is bad. An explicit null gives the null value, or nothing where there is none. A fault is always bad.
abbrev pub taken_item : MappedColumn → Item → Result (List CellValue) RowCause
taken_item column (value d) = taken_value column (accepted column.column.kind d)
taken_item column explicit_null = Ok (option_to_list column.null_value)
taken_item column (fault cause) = Err cause

-- the cell of a column, or the first item that is bad
abbrev pub taken : MappedColumn → List Item → Result (List CellValue) RowCause
taken column items = join_all (taken_item column) items

-- ---- a row

-- Where a row is bad: its line, the column, which is empty where the line is no object, and why.
pub record RowFault : Type 0 where
  pub line : ℕ
  pub field : List ℕ
  pub cause : RowCause

abbrev pub cell_from : ℕ → List ℕ → Result (List CellValue) RowCause → Result (List (List CellValue)) RowFault
cell_from line field (Ok values) = Ok (values ∷ [])
cell_from line field (Err cause) = Err (record { line = line; field = field; cause = cause })

-- the cell that a column takes of an object
abbrev pub cell_of : ℕ → Data → MappedColumn → Result (List (List CellValue)) RowFault
cell_of line d column = cell_from line column.column.name (taken column (gather d column.column.name))

-- the cells of all columns, or the first column that is bad
abbrev pub cells_of : ℕ → List MappedColumn → Data → Result (List (List CellValue)) RowFault
cells_of line columns d = join_all (cell_of line d) columns

abbrev pub row_from : Result (List (List CellValue)) RowFault → Result (List (List (List CellValue))) RowFault
row_from (Ok row) = Ok (row ∷ [])
row_from (Err bad) = Err bad

-- the row of a line that is an object
abbrev pub row_of : ℕ → List MappedColumn → Option Data → Result (List (List (List CellValue))) RowFault
row_of line columns None = Err (record { line = line; field = []; cause = NotJson })
row_of line columns (Some null) = Err (record { line = line; field = []; cause = NotObject })
row_of line columns (Some (boolean b)) = Err (record { line = line; field = []; cause = NotObject })
row_of line columns (Some (number n)) = Err (record { line = line; field = []; cause = NotObject })
row_of line columns (Some (string s)) = Err (record { line = line; field = []; cause = NotObject })
row_of line columns (Some (array ds)) = Err (record { line = line; field = []; cause = NotObject })
row_of line columns (Some (object ms)) = row_from (cells_of line columns (object ms))

-- ---- the lines

abbrev pub onto_first : ℕ → List (List ℕ) → List (List ℕ)
onto_first b [] = (b ∷ []) ∷ []
onto_first b (line ∷ lines) = (b ∷ line) ∷ lines

-- lines end at byte 10; a last line without it counts
abbrev pub ended_lines : List ℕ → List (List ℕ)
ended_lines [] = []
ended_lines (b ∷ bytes) = if b == 10 then [] ∷ ended_lines bytes else onto_first b (ended_lines bytes)

-- one byte 13 at the end of a line is dropped
abbrev pub without_return : List ℕ → List ℕ
without_return line = if slice_index line (length line - 1) == 13 then take (length line - 1) line else line

abbrev pub lines : List ℕ → List (List ℕ)
lines bytes = map without_return (ended_lines bytes)

-- a line of spaces and tabs alone, or empty
abbrev pub is_blank : List ℕ → Bool
is_blank line = list_all (λ b. (b == 32) || (b == 9)) line

-- ---- the table

-- what a line with its number gives: nothing where it is blank, else its row
abbrev pub line_rows : List MappedColumn → ℕ × List ℕ → Result (List (List (List CellValue))) RowFault
line_rows columns numbered = if is_blank numbered.1 then Ok [] else row_of numbered.0 columns (document_of numbered.1)

abbrev pub rows_from : List MappedColumn → ℕ → List (List ℕ) → Result (List (List (List CellValue))) RowFault
rows_from columns first texts = join_all (line_rows columns) (enumerate_from first texts)

-- The table: the row of each line that is not blank, in their order, or the first bad line, in it the first bad column, and in
-- it the first bad item. Lines are numbered from 1.
abbrev pub table_of : List MappedColumn → List ℕ → Result (List (List (List CellValue))) RowFault
table_of columns bytes = rows_from columns 1 (lines bytes)
