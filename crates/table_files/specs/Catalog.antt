-- The tables and policies that names stand for, over the files that are held.
use Rattle.std.specs.Prelude.{◌≡◌, ℕ, ◌+◌, ◌≤◌, ◌<◌, Bool, true, false, List, [], ◌∷◌, ◌++◌, length, codes, Option, Some, None, Result, Ok, Err}
use Rattle.esql_io.specs.Files.{Held}
use Rattle.esql_types.specs.declared.value.Value.{Value}
use Rattle.esql_ast.specs.declared.query.NameAt.{NameAt}
use Rattle.esql_ast.specs.declared.uses.SourceUse.{SourceUse}
use Rattle.esql_plan.specs.declared.catalog.PolicyShape.{PolicyShape}
use Rattle.ndjson_load.specs.declared.cause.MappingCause.{MappingCause}
use Rattle.ndjson_load.specs.declared.column.MappedColumn.{MappedColumn}
use Rattle.ndjson_load.specs.Mappings.{IsMapping, IsMappingFault}
use Rattle.ndjson_load.specs.Over.{BytesOf, Over}
use Rattle.ndjson_load.specs.Rows.{RowFault, table_of}
use Rattle.policy_json.specs.Policies.{policy_text}
use Rattle.policy_json.specs.declared.policy.PolicyText.{PolicyText}
use Rattle.table_files.specs.declared.tables.FoundTable.{FoundTable}
use Rattle.table_files.specs.Found.{Found, absent_table, has_table, with_policy, with_table}
use Rattle.table_files.specs.Halts.{Halt, unknown_policy, bad, absent}
use Rattle.table_files.specs.InTurn.{InTurn}
use Rattle.table_files.specs.Messages.{too_large, too_many, mapping_message, row_message}
use Rattle.table_files.specs.Policies.{entries_of_text, tables_named, shape_of_policy}
use Rattle.table_files.specs.Shapes.{entries_in}

-- a folder that was named stands before the name of a file, with a slash between
abbrev pub folder_text : Option (List ℕ) → List ℕ
folder_text None = []
folder_text (Some folder) = folder ++ codes "/"

-- a file of a table or of a policy: its folder, its name, and what the file is
abbrev pub table_file : Option (List ℕ) → List ℕ → List ℕ → List ℕ
table_file folder name suffix = folder_text folder ++ (name ++ suffix)

abbrev pub mapping_file : Option (List ℕ) → List ℕ → List ℕ
mapping_file folder name = table_file folder name (codes ".mapping.json")

abbrev pub row_file : Option (List ℕ) → List ℕ → List ℕ
row_file folder name = table_file folder name (codes ".ndjson")

abbrev pub policy_file : Option (List ℕ) → List ℕ → List ℕ
policy_file folder name = table_file folder name (codes ".policy.json")

-- the most bytes of a file, and the most entries of a catalog, which are its tables, their columns, its policies, and the
-- tables and the fields of each
abbrev pub most_bytes : ℕ
most_bytes = 268435456

abbrev pub most_entries : ℕ
most_entries = 100000

-- a file is held that is not too large
pub record Holds (held : BytesOf) (file bytes : List ℕ) : Type 0 where
  pub is : held file ≡ Some bytes
  pub fits : length bytes ≤ most_bytes

-- a file is held that is too large
pub record IsTooLarge (held : BytesOf) (file : List ℕ) : Type 0 where
  pub bytes : List ℕ
  pub is : held file ≡ Some bytes
  pub wide : most_bytes < length bytes

-- What the name of a table stands for after so many entries of the catalog, the name itself or, for a policy, one of its tables. A
-- table has a mapping and a row file, of which only the mapping is read.
pub data NamesTable (folder : Option (List ℕ)) (held : BytesOf) (policy : Bool) (entries : ℕ) (name : NameAt) : Result FoundTable Halt → Type 0 where
  no_mapping : held (mapping_file folder name.name) ≡ None → NamesTable folder held policy entries name (Err (absent policy name))
  wide_mapping : IsTooLarge held (mapping_file folder name.name) → NamesTable folder held policy entries name (Err (bad (too_large (mapping_file folder name.name))))
  no_rows : (bytes : List ℕ) → Holds held (mapping_file folder name.name) bytes → held (row_file folder name.name) ≡ None → NamesTable folder held policy entries name (Err (absent policy name))
  bad_mapping : (bytes rows : List ℕ) (cause : MappingCause) → Holds held (mapping_file folder name.name) bytes → held (row_file folder name.name) ≡ Some rows → IsMappingFault bytes cause
      → NamesTable folder held policy entries name (Err (bad (mapping_message (mapping_file folder name.name) cause)))
  crowded : (bytes rows : List ℕ) (columns : List MappedColumn) → Holds held (mapping_file folder name.name) bytes → held (row_file folder name.name) ≡ Some rows → IsMapping bytes columns
      → most_entries < entries + 1 + length columns → NamesTable folder held policy entries name (Err (bad (too_many (mapping_file folder name.name))))
  table : (bytes rows : List ℕ) (columns : List MappedColumn) → Holds held (mapping_file folder name.name) bytes → held (row_file folder name.name) ≡ Some rows → IsMapping bytes columns
      → entries + 1 + length columns ≤ most_entries → NamesTable folder held policy entries name (Ok (record { name = name.name; span = name.span; policy = policy; columns = columns }))

-- the same over files that may not tell what they hold
abbrev pub StandsFor : Option (List ℕ) → Held → Bool → ℕ → NameAt → Result FoundTable Halt → Type 0
StandsFor folder held policy entries name result = Over held (λ bytes_of. NamesTable folder bytes_of policy entries name result)

-- What was found with the table of a name, beside so many entries. A table that was found is not looked up again.
pub data AddsTable (folder : Option (List ℕ)) (held : Held) (policy : Bool) (beside : ℕ) (found : Found) (name : NameAt) : Result Found Halt → Type 0 where
  known : has_table found.tables name.name ≡ true → AddsTable folder held policy beside found name (Ok found)
  no_table : (halt : Halt) → has_table found.tables name.name ≡ false → StandsFor folder held policy (entries_in found + beside) name (Err halt)
      → AddsTable folder held policy beside found name (Err halt)
  one_more : (new : FoundTable) → has_table found.tables name.name ≡ false → StandsFor folder held policy (entries_in found + beside) name (Ok new)
      → AddsTable folder held policy beside found name (Ok (with_table found new))

-- What the name of a policy stands for after so many entries: its document is read, and it counts with its tables and fields.
pub data NamesPolicy (folder : Option (List ℕ)) (held : BytesOf) (entries : ℕ) (name : NameAt) : Result PolicyText Halt → Type 0 where
  no_document : held (policy_file folder name.name) ≡ None → NamesPolicy folder held entries name (Err (unknown_policy name.span))
  wide_document : IsTooLarge held (policy_file folder name.name) → NamesPolicy folder held entries name (Err (bad (too_large (policy_file folder name.name))))
  bad_document : (bytes : List ℕ) (cause : MappingCause) → Holds held (policy_file folder name.name) bytes → policy_text bytes ≡ Err cause
      → NamesPolicy folder held entries name (Err (bad (mapping_message (policy_file folder name.name) cause)))
  crowded_document : (bytes : List ℕ) (policy : PolicyText) → Holds held (policy_file folder name.name) bytes → policy_text bytes ≡ Ok policy
      → most_entries < entries + entries_of_text policy → NamesPolicy folder held entries name (Err (bad (too_many (policy_file folder name.name))))
  document : (bytes : List ℕ) (policy : PolicyText) → Holds held (policy_file folder name.name) bytes → policy_text bytes ≡ Ok policy
      → entries + entries_of_text policy ≤ most_entries → NamesPolicy folder held entries name (Ok policy)

-- the same over files that may not tell what they hold
abbrev pub HasPolicy : Option (List ℕ) → Held → ℕ → NameAt → Result PolicyText Halt → Type 0
HasPolicy folder held entries name result = Over held (λ bytes_of. NamesPolicy folder bytes_of entries name result)

-- what was found with the tables of a policy in turn, beside the entries of the policy
abbrev pub AddsTables : Option (List ℕ) → Held → Found → NameAt → PolicyText → Result Found Halt → Type 0
AddsTables folder held found name policy = InTurn (AddsTable folder held true (entries_of_text policy)) found (tables_named name policy)

-- What was found with the policy of a name: its document, then its tables, then its fields.
pub data AddsPolicy (folder : Option (List ℕ)) (held : Held) (found : Found) (name : NameAt) : Result Found Halt → Type 0 where
  no_policy : (halt : Halt) → HasPolicy folder held (entries_in found) name (Err halt) → AddsPolicy folder held found name (Err halt)
  lacks_table : (policy : PolicyText) (halt : Halt) → HasPolicy folder held (entries_in found) name (Ok policy) → AddsTables folder held found name policy (Err halt)
      → AddsPolicy folder held found name (Err halt)
  misfits : (policy : PolicyText) (new : Found) (cause : MappingCause) → HasPolicy folder held (entries_in found) name (Ok policy) → AddsTables folder held found name policy (Ok new)
      → shape_of_policy new.tables name.name policy ≡ Err cause → AddsPolicy folder held found name (Err (bad (mapping_message (policy_file folder name.name) cause)))
  fits : (policy : PolicyText) (new : Found) (shape : PolicyShape) → HasPolicy folder held (entries_in found) name (Ok policy) → AddsTables folder held found name policy (Ok new)
      → shape_of_policy new.tables name.name policy ≡ Ok shape → AddsPolicy folder held found name (Ok (with_policy new shape))

abbrev pub AddsNamed : Option (List ℕ) → Held → Bool → Found → NameAt → Result Found Halt → Type 0
AddsNamed folder held false found name result = AddsTable folder held false 0 found name result
AddsNamed folder held true found name result = AddsPolicy folder held found name result

-- what was found with the table or the policy that a query uses
abbrev pub AddsUse : Option (List ℕ) → Held → Found → SourceUse → Result Found Halt → Type 0
AddsUse folder held found use_ result = AddsNamed folder held use_.policy found use_.name result

-- what uses stand for in turn, up to the first that halts
abbrev pub Gathers : Option (List ℕ) → Held → Found → List SourceUse → Result Found Halt → Type 0
Gathers folder held = InTurn (AddsUse folder held)

abbrev pub Rows : Type 0
Rows = List (List (List Value))

-- the rows of a table that was named
pub data RowsOf (folder : Option (List ℕ)) (held : BytesOf) (table : FoundTable) : Result Rows Halt → Type 0 where
  vanished : held (row_file folder table.name) ≡ None → RowsOf folder held table (Err (absent_table table))
  wide_rows : IsTooLarge held (row_file folder table.name) → RowsOf folder held table (Err (bad (too_large (row_file folder table.name))))
  bad_row : (bytes : List ℕ) (fault : RowFault) → Holds held (row_file folder table.name) bytes → table_of table.columns bytes ≡ Err fault
      → RowsOf folder held table (Err (bad (row_message (row_file folder table.name) fault)))
  rows : (bytes : List ℕ) (read : Rows) → Holds held (row_file folder table.name) bytes → table_of table.columns bytes ≡ Ok read → RowsOf folder held table (Ok read)

-- the same over files that may not tell what they hold
abbrev pub HasRows : Option (List ℕ) → Held → FoundTable → Result Rows Halt → Type 0
HasRows folder held found result = Over held (λ bytes_of. RowsOf folder bytes_of found result)

-- the rows of tables in turn, up to the first bad file
pub data Loads (folder : Option (List ℕ)) (held : Held) : List FoundTable → Result (List Rows) Halt → Type 0 where
  no_tables : Loads folder held [] (Ok [])
  stops : (table : FoundTable) (tables : List FoundTable) (halt : Halt) → HasRows folder held table (Err halt) → Loads folder held (table ∷ tables) (Err halt)
  stops_later : (table : FoundTable) (tables : List FoundTable) (read : Rows) (halt : Halt) → HasRows folder held table (Ok read) → Loads folder held tables (Err halt)
      → Loads folder held (table ∷ tables) (Err halt)
  more_rows : (table : FoundTable) (tables : List FoundTable) (read : Rows) (reads : List Rows) → HasRows folder held table (Ok read) → Loads folder held tables (Ok reads)
      → Loads folder held (table ∷ tables) (Ok (read ∷ reads))
