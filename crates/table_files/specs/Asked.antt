-- Which files are asked for, over files that may not tell what they hold.
use Rattle.std.specs.Prelude.{◌≡◌, ℕ, Bool, true, false, List, ◌∷◌, Option, Ok}
use Rattle.esql_io.specs.Files.{Held}
use Rattle.esql_ast.specs.declared.query.NameAt.{NameAt}
use Rattle.esql_ast.specs.declared.uses.SourceUse.{SourceUse}
use Rattle.ndjson_load.specs.Over.{Over}
use Rattle.policy_json.specs.declared.policy.PolicyText.{PolicyText}
use Rattle.table_files.specs.declared.tables.FoundTable.{FoundTable}
use Rattle.table_files.specs.Catalog.{Holds, HasPolicy, HasRows, Rows, AddsTable, AddsUse, mapping_file, policy_file, row_file}
use Rattle.table_files.specs.Found.{Found, has_table}
use Rattle.table_files.specs.InTurn.{AskedInTurn}
use Rattle.table_files.specs.Policies.{entries_of_text, tables_named}
use Rattle.table_files.specs.Shapes.{entries_in}

-- the files that are asked for to look up a table: its mapping, and its row file where the mapping is held and not too large
pub data AskedForFiles (folder : Option (List ℕ)) (held : Held) (name : List ℕ) : List ℕ → Type 0 where
  the_mapping : AskedForFiles folder held name (mapping_file folder name)
  the_rows : (bytes : List ℕ) → Over held (λ bytes_of. Holds bytes_of (mapping_file folder name) bytes) → AskedForFiles folder held name (row_file folder name)

-- those that are asked for to find the table of a name, where it was not found before
pub record AskedForTable (folder : Option (List ℕ)) (held : Held) (found : Found) (name : NameAt) (file : List ℕ) : Type 0 where
  pub new : has_table found.tables name.name ≡ false
  pub asked : AskedForFiles folder held name.name file

-- the files that are asked for to find a policy: its document, and behind it those of its tables in turn
pub data AskedForPolicy (folder : Option (List ℕ)) (held : Held) (found : Found) (name : NameAt) : List ℕ → Type 0 where
  the_document : AskedForPolicy folder held found name (policy_file folder name.name)
  its_tables : (policy : PolicyText) (file : List ℕ) → HasPolicy folder held (entries_in found) name (Ok policy)
      → AskedInTurn (AddsTable folder held true (entries_of_text policy)) (AskedForTable folder held) found (tables_named name policy) file → AskedForPolicy folder held found name file

abbrev pub AskedForNamed : Option (List ℕ) → Held → Bool → Found → NameAt → List ℕ → Type 0
AskedForNamed folder held false found name file = AskedForTable folder held found name file
AskedForNamed folder held true found name file = AskedForPolicy folder held found name file

-- the files that are asked for to find what a query uses
abbrev pub AskedForUse : Option (List ℕ) → Held → Found → SourceUse → List ℕ → Type 0
AskedForUse folder held found use_ file = AskedForNamed folder held use_.policy found use_.name file

-- the files that are asked for to find what uses stand for, in turn
abbrev pub AskedToFind : Option (List ℕ) → Held → Found → List SourceUse → List ℕ → Type 0
AskedToFind folder held = AskedInTurn (AddsUse folder held) (AskedForUse folder held)

-- The files that are asked for to load tables: the row file of the first, and behind it those of the tables after it,
-- where the first has rows.
pub data AskedToLoad (folder : Option (List ℕ)) (held : Held) : List FoundTable → List ℕ → Type 0 where
  first_rows : (table : FoundTable) (tables : List FoundTable) → AskedToLoad folder held (table ∷ tables) (row_file folder table.name)
  after : (table : FoundTable) (tables : List FoundTable) (read : Rows) (file : List ℕ) → HasRows folder held table (Ok read) → AskedToLoad folder held tables file
      → AskedToLoad folder held (table ∷ tables) file
