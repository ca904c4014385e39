-- What the code answers as it takes the cells of a row and the rows of a table.
use Rattle.std.specs.Prelude.{◌≡◌, ℕ, ◌≤◌, List, length, Option, Some, None, Result, Ok, Err, ⊤}
use Rattle.esql_types.specs.declared.value.Value.{Value as CellValue}
use Rattle.ndjson_load.specs.Rows.{RowFault, table_of}
use Rattle.ndjson_load.specs.declared.column.MappedColumn.{MappedColumn}
use Rattle.ndjson_load.specs.declared.cause.RowCause.{RowCause}
use Rattle.ndjson_load.specs.declared.cause.LoadError.{LoadError}
use Rattle.ndjson_load.specs.declared.cause.LoadError.TheVariants.{ReadFault, TooLarge, BadRow, Memory}
use Rattle.ndjson_load.specs.declared.take.TakeError.{TakeError}
use Rattle.ndjson_load.specs.declared.take.TakeError.TheVariants.{Bad, Memory as NoMemory}

-- the cell that is meant, or the cause that is meant, or want of memory
abbrev pub Takes : {T : Type 0} → Result (List CellValue) RowCause → Result T TakeError → List CellValue → Type 0
Takes meant (Ok done) cell = meant ≡ Ok cell
Takes meant (Err (Bad cause)) cell = meant ≡ Err cause
Takes meant (Err (NoMemory error)) cell = ⊤

-- P of where a row is bad, if memory was not at fault
abbrev pub IfBadRow : LoadError → (RowFault → Type 0) → Type 0
IfBadRow ReadFault P = ⊥
IfBadRow TooLarge P = ⊥
IfBadRow (BadRow line field cause) P = P (record { line = line; field = field; cause = cause })
IfBadRow (Memory error) P = ⊤

-- P of where a row is bad, if one is
abbrev pub IfRowFault : LoadError → (RowFault → Type 0) → Type 0
IfRowFault ReadFault P = ⊤
IfRowFault TooLarge P = ⊤
IfRowFault (BadRow line field cause) P = P (record { line = line; field = field; cause = cause })
IfRowFault (Memory error) P = ⊤

-- the table of the bytes of a file, which are not too many, and none exactly where the file is not held
abbrev pub IsLoaded : List MappedColumn → Option (List ℕ) → Option (List (List (List CellValue))) → Type 0
IsLoaded columns None None = ⊤
IsLoaded columns None (Some table) = ⊥
IsLoaded columns (Some bytes) None = ⊥
IsLoaded columns (Some bytes) (Some table) = (length bytes ≤ 268435456) × (table_of columns bytes ≡ Ok table)

-- the list that is meant, or where a row is bad as it is meant, or want of memory
abbrev pub Loads : {Y T : Type 0} → Result (List Y) RowFault → Result T LoadError → List Y → Type 0
Loads meant (Ok done) list = meant ≡ Ok list
Loads meant (Err error) list = IfBadRow error (λ bad. meant ≡ Err bad)
