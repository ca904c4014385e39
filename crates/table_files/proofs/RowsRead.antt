-- The rows of a table, from what was answered of its row file, and of tables one after another.
use Rattle.std.proofs.Common.{◌≡◌, ℕ, ◌≤◌, ◌<◌, List, [], ◌∷◌, ◌++◌, length, Result, Ok, Err, Option, Some, None, refl, ap, sym, subst, ◌∙◌, append_assoc, append-nil}
use Rattle.std.specs.Option.{IfSome, IsSomeAnd}
use Rattle.esql_io.specs.Files.{Held}
use Rattle.ndjson_load.specs.Loading.{IsLoaded, IfRowFault}
use Rattle.ndjson_load.specs.Over.{BytesOf, Over}
use Rattle.ndjson_load.specs.Rows.{RowFault, table_of}
use Rattle.ndjson_load.specs.declared.cause.RowCause.{RowCause}
use Rattle.ndjson_load.specs.declared.cause.LoadError.{LoadError}
use Rattle.ndjson_load.specs.declared.cause.LoadError.TheVariants.{BadRow}
use Rattle.table_files.specs.declared.tables.FoundTable.{FoundTable}
use Rattle.table_files.specs.declared.stop.Stop.{Stop}
use Rattle.table_files.specs.Asked.{AskedToLoad, first_rows, after}
use Rattle.table_files.specs.Catalog.{IsTooLarge, Rows, RowsOf, HasRows, vanished, wide_rows, bad_row, rows, row_file, Loads, no_tables, stops, stops_later, more_rows}
use Rattle.table_files.specs.Found.{absent_table}
use Rattle.table_files.specs.Halts.{Halt, bad}
use Rattle.table_files.specs.Messages.{too_large, row_message}
use Rattle.table_files.specs.Stops.{Says}
use Rattle.table_files.proofs.FilesRead.{over_weaker, over_large}
use Rattle.table_files.proofs.Stopped.{says_of}

-- ---- one table

has_rows : (folder : Option (List ℕ)) (h : BytesOf) (found : FoundTable) (table : Rows) (bytes : Option (List ℕ)) → h (row_file folder found.name) ≡ bytes
    → IsLoaded found.columns bytes (Some table) → RowsOf folder h found (Ok table)
has_rows folder h found table None is loaded = absurd loaded
has_rows folder h found table (Some b) is (fits, loaded) = rows b table (record { is = is; fits = fits }) loaded

pub rows_some : (folder : Option (List ℕ)) (held : Held) (found : FoundTable) (file : List ℕ) (read : Option Rows) (table : Rows) → read ≡ Some table → file ≡ row_file folder found.name
    → Over held (λ h. IsLoaded found.columns (h file) read) → HasRows folder held found (Ok table)
rows_some folder held found file read table is of loaded =
    over_weaker held (λ h. IsLoaded found.columns (h file) read) (λ h. RowsOf folder h found (Ok table))
    (λ h of_file. has_rows folder h found table (h (row_file folder found.name)) refl
    (subst (λ r. IsLoaded found.columns (h (row_file folder found.name)) r) is (subst (λ f. IsLoaded found.columns (h f) read) of of_file)))
    loaded

has_none : (folder : Option (List ℕ)) (h : BytesOf) (found : FoundTable) (bytes : Option (List ℕ)) → h (row_file folder found.name) ≡ bytes
    → IsLoaded found.columns bytes None → RowsOf folder h found (Err (absent_table found))
has_none folder h found None is loaded = vanished is
has_none folder h found (Some b) is loaded = absurd loaded

pub rows_none : (folder : Option (List ℕ)) (held : Held) (found : FoundTable) (file : List ℕ) (read : Option Rows) → read ≡ None → file ≡ row_file folder found.name
    → Over held (λ h. IsLoaded found.columns (h file) read) → HasRows folder held found (Err (absent_table found))
rows_none folder held found file read is of loaded =
    over_weaker held (λ h. IsLoaded found.columns (h file) read) (λ h. RowsOf folder h found (Err (absent_table found)))
    (λ h of_file. has_none folder h found (h (row_file folder found.name)) refl
    (subst (λ r. IsLoaded found.columns (h (row_file folder found.name)) r) is (subst (λ f. IsLoaded found.columns (h f) read) of of_file)))
    loaded

pub rows_wide : (folder : Option (List ℕ)) (held : Held) (found : FoundTable) (file named message : List ℕ) → file ≡ row_file folder found.name → named ≡ row_file folder found.name → message ≡ too_large named
    → IfSome held (λ h. IsSomeAnd (h file) (λ b. 268435456 < length b)) → HasRows folder held found (Err (bad message))
rows_wide folder held found file named message of again is wide =
    subst (λ m. HasRows folder held found (Err (bad m))) (sym (is ∙ ap too_large again))
    (over_weaker held (λ h. IsTooLarge h file) (λ h. RowsOf folder h found (Err (bad (too_large (row_file folder found.name)))))
    (λ h large. wide_rows (subst (IsTooLarge h) of large)) (over_large held file wide))

has_bad : (folder : Option (List ℕ)) (h : BytesOf) (found : FoundTable) (fault : RowFault) (bytes : Option (List ℕ)) → h (row_file folder found.name) ≡ bytes
    → IsSomeAnd bytes (λ b. (length b ≤ 268435456) × (table_of found.columns b ≡ Err fault))
    → RowsOf folder h found (Err (bad (row_message (row_file folder found.name) fault)))
has_bad folder h found fault None is faulty = absurd faulty
has_bad folder h found fault (Some b) is faulty = bad_row b fault (record { is = is; fits = faulty.0 }) faulty.1

pub rows_bad : (folder : Option (List ℕ)) (held : Held) (found : FoundTable) (file named message shown : List ℕ) (line : ℕ) (field : List ℕ) (cause : RowCause) (error : LoadError)
    → error ≡ BadRow line field cause → file ≡ row_file folder found.name → named ≡ row_file folder found.name → shown ≡ field
    → message ≡ row_message named (record { line = line; field = shown; cause = cause })
    → IfRowFault error (λ fault. Over held (λ h. IsSomeAnd (h file) (λ b. (length b ≤ 268435456) × (table_of found.columns b ≡ Err fault))))
    → HasRows folder held found (Err (bad message))
rows_bad folder held found file named message shown line field cause error names of again same is faulty =
    let fault : RowFault = record { line = line; field = field; cause = cause } in
    let at = subst (λ e. IfRowFault e (λ fault. Over held (λ h. IsSomeAnd (h file) (λ b. (length b ≤ 268435456) × (table_of found.columns b ≡ Err fault))))) names faulty in
    let says = is ∙ ap (λ f. row_message f (record { line = line; field = shown; cause = cause })) again
    ∙ ap (λ s. row_message (row_file folder found.name) (record { line = line; field = s; cause = cause })) same in
    subst (λ m. HasRows folder held found (Err (bad m))) (sym says)
    (over_weaker held (λ h. IsSomeAnd (h file) (λ b. (length b ≤ 268435456) × (table_of found.columns b ≡ Err fault))) (λ h. RowsOf folder h found (Err (bad (row_message (row_file folder found.name) fault))))
    (λ h has. has_bad folder h found fault (h (row_file folder found.name)) refl
    (subst (λ f. IsSomeAnd (h f) (λ b. (length b ≤ 268435456) × (table_of found.columns b ≡ Err fault))) of has)) at)

-- ---- tables in turn

-- what is answered with these before
abbrev pub onto : {A : Type 0} → List A → Result (List A) Halt → Result (List A) Halt
onto before (Ok later) = Ok (before ++ later)
onto before (Err halt) = Err halt

onto_none : {A : Type 0} (r : Result (List A) Halt) → onto [] r ≡ r
onto_none (Ok later) = refl
onto_none (Err halt) = refl

onto_more : {A : Type 0} (before : List A) (item : A) (later : List A) → onto before (Ok (item ∷ later)) ≡ onto (before ++ item ∷ []) (Ok later)
onto_more before item later = ap Ok (sym (append_assoc before (item ∷ []) later))

-- the rows of the tables that are left, after the rows before, are the rows of all tables
abbrev pub LoadedSoFar : Option (List ℕ) → Held → List FoundTable → List FoundTable → List Rows → Type 0
LoadedSoFar folder held founds rest tables = (r : Result (List Rows) Halt) → Loads folder held rest r → Loads folder held founds (onto tables r)

pub loaded_none : (folder : Option (List ℕ)) (held : Held) (founds rest : List FoundTable) (tables : List Rows) → rest ≡ founds → tables ≡ [] → LoadedSoFar folder held founds rest tables
loaded_none folder held founds rest tables all empty = λ r loads.
    subst (λ before. Loads folder held founds (onto before r)) (sym empty)
    (subst (Loads folder held founds) (sym (onto_none r)) (subst (λ ss. Loads folder held ss r) all loads))

loaded_step : (folder : Option (List ℕ)) (held : Held) (founds rest : List FoundTable) (found : FoundTable) (read : Rows) (tables : List Rows)
    → LoadedSoFar folder held founds (found ∷ rest) tables → HasRows folder held found (Ok read) → LoadedSoFar folder held founds rest (tables ++ read ∷ [])
loaded_step folder held founds rest found read tables before table (Ok later) loads =
    subst (Loads folder held founds) (onto_more tables read later) (before (Ok (read ∷ later)) (more_rows found rest read later table loads))
loaded_step folder held founds rest found read tables before table (Err halt) loads =
    before (Err halt) (stops_later found rest read halt table loads)

pub loaded_more : (folder : Option (List ℕ)) (held now : Held) (founds left rest : List FoundTable) (found : FoundTable) (read : Rows) (tables new : List Rows)
    → now ≡ held → left ≡ found ∷ rest → new ≡ tables ++ read ∷ []
    → LoadedSoFar folder held founds left tables → HasRows folder now found (Ok read) → LoadedSoFar folder held founds rest new
loaded_more folder held now founds left rest found read tables new same cut is before table =
    subst (LoadedSoFar folder held founds rest) (sym is)
    (loaded_step folder held founds rest found read tables (subst (λ l. LoadedSoFar folder held founds l tables) cut before) (subst (λ h. HasRows folder h found (Ok read)) same table))

pub loaded_all : (folder : Option (List ℕ)) (held : Held) (founds left : List FoundTable) (tables : List Rows) → left ≡ []
    → LoadedSoFar folder held founds left tables → Loads folder held founds (Ok tables)
loaded_all folder held founds left tables end before =
    subst (λ t. Loads folder held founds (Ok t)) (append-nil tables)
    (subst (λ l. LoadedSoFar folder held founds l tables) end before (Ok []) no_tables)

pub loaded_halt : (text : List ℕ) (folder : Option (List ℕ)) (held now : Held) (founds left rest : List FoundTable) (found : FoundTable) (tables : List Rows) (stop : Stop)
    → now ≡ held → left ≡ found ∷ rest → LoadedSoFar folder held founds left tables → Says text (HasRows folder now found) (Err stop)
    → Says text (Loads folder held founds) (Err stop)
loaded_halt text folder held now founds left rest found tables stop same cut before table =
    says_of text (HasRows folder held found) (Loads folder held founds) stop
    (λ halt at. subst (λ l. LoadedSoFar folder held founds l tables) cut before (Err halt) (stops found rest halt at))
    (subst (λ h. Says text (HasRows folder h found) (Err stop)) same table)

-- ---- the files that are asked for

abbrev pub AsksRows : Option (List ℕ) → Held → List FoundTable → List FoundTable → Type 0
AsksRows folder held founds rest = (file : List ℕ) → AskedToLoad folder held rest file → AskedToLoad folder held founds file

pub asks_rows_none : (folder : Option (List ℕ)) (held : Held) (founds rest : List FoundTable) → rest ≡ founds → AsksRows folder held founds rest
asks_rows_none folder held founds rest all = λ file asked. subst (λ ss. AskedToLoad folder held ss file) all asked

pub asks_rows_more : (folder : Option (List ℕ)) (held now : Held) (founds left rest : List FoundTable) (found : FoundTable) (read : Rows) → now ≡ held → left ≡ found ∷ rest
    → AsksRows folder held founds left → HasRows folder now found (Ok read) → AsksRows folder held founds rest
asks_rows_more folder held now founds left rest found read same cut before table = λ file asked.
    before file (subst (λ ss. AskedToLoad folder held ss file) (sym cut) (after found rest read file (subst (λ h. HasRows folder h found (Ok read)) same table) asked))

pub asks_rows_one : (folder : Option (List ℕ)) (held : Held) (founds left rest : List FoundTable) (found : FoundTable) → left ≡ found ∷ rest → AsksRows folder held founds left
    → (file : List ℕ) → file ≡ row_file folder found.name → AskedToLoad folder held founds file
asks_rows_one folder held founds left rest found cut before file is =
    before file (subst (λ ss. AskedToLoad folder held ss file) (sym cut) (subst (AskedToLoad folder held (found ∷ rest)) (sym is) (first_rows found rest)))
