-- The rows of a file that was read, over files that may not tell what they hold.
use Rattle.std.proofs.Common.{◌≡◌, ℕ, ◌≤◌, List, length, Option, Some, None, Ok, Err, sym, subst}
use Rattle.std.specs.Option.{IfSome, IsSomeAnd}
use Rattle.esql_types.specs.declared.value.Value.{Value as CellValue}
use Rattle.esql_io.specs.Files.{Held}
use Rattle.ndjson_load.specs.Loading.{IsLoaded, IfBadRow, IfRowFault}
use Rattle.ndjson_load.specs.Over.{Over}
use Rattle.ndjson_load.specs.Rows.{RowFault, table_of}
use Rattle.ndjson_load.specs.declared.cause.LoadError.{LoadError}
use Rattle.ndjson_load.specs.declared.cause.LoadError.TheVariants.{ReadFault, TooLarge, BadRow, Memory}
use Rattle.ndjson_load.specs.declared.column.MappedColumn.{MappedColumn}

-- what was read of a file is what is held of it; where that is not told it may be this
over_read : (held : Held) (file : List ℕ) (read : Option (List ℕ)) (P : Option (List ℕ) → Type 0) → IfSome held (λ bytes_of. read ≡ bytes_of file) → P read → Over held (λ bytes_of. P (bytes_of file))
over_read None file read P is p = ((λ name. read), p)
over_read (Some bytes_of) file read P is p = subst P is p

pub over_rows : (held : Held) (file : List ℕ) (columns : List MappedColumn) (read : Option (List ℕ)) (bytes : List ℕ) (table : List (List (List CellValue))) → read ≡ Some bytes
    → IfSome held (λ bytes_of. read ≡ bytes_of file) → length bytes ≤ 268435456 → table_of columns bytes ≡ Ok table
    → Over held (λ bytes_of. IsLoaded columns (bytes_of file) (Some table))
over_rows held file columns read bytes table some is fits rows =
    over_read held file read (λ r. IsLoaded columns r (Some table)) is (subst (λ r. IsLoaded columns r (Some table)) (sym some) (fits, rows))

pub over_none : (held : Held) (file : List ℕ) (columns : List MappedColumn) (read : Option (List ℕ)) → read ≡ None → IfSome held (λ bytes_of. read ≡ bytes_of file)
    → Over held (λ bytes_of. IsLoaded columns (bytes_of file) None)
over_none held file columns read none is = over_read held file read (λ r. IsLoaded columns r None) is (subst (λ r. IsLoaded columns r None) (sym none) tt)

pub over_bad : (held : Held) (file : List ℕ) (columns : List MappedColumn) (read : Option (List ℕ)) (bytes : List ℕ) (error : LoadError) → read ≡ Some bytes
    → IfSome held (λ bytes_of. read ≡ bytes_of file) → length bytes ≤ 268435456 → IfBadRow error (λ bad. table_of columns bytes ≡ Err bad)
    → IfRowFault error (λ bad. Over held (λ bytes_of. IsSomeAnd (bytes_of file) (λ b. (length b ≤ 268435456) × (table_of columns b ≡ Err bad))))
over_bad held file columns read bytes ReadFault some is fits faulty = tt
over_bad held file columns read bytes TooLarge some is fits faulty = tt
over_bad held file columns read bytes (BadRow line field cause) some is fits faulty =
    let bad : RowFault = record { line = line; field = field; cause = cause } in
    over_read held file read (λ r. IsSomeAnd r (λ b. (length b ≤ 268435456) × (table_of columns b ≡ Err bad))) is
    (subst (λ r. IsSomeAnd r (λ b. (length b ≤ 268435456) × (table_of columns b ≡ Err bad))) (sym some) (fits, faulty))
over_bad held file columns read bytes (Memory error) some is fits faulty = tt
