-- What is found is found over contents with other row files, of which only whether they are there is asked; and the rows of
-- tables of different names, over files that do not tell what they hold, are those of some contents.
use Rattle.std.proofs.Common.{◌≡◌, ◌⊎◌, inl, inr, ⊎_elim, ℕ, ◌+◌, Bool, true, false, List, [], ◌∷◌, Option, Some, None, Result, Ok, Err, refl, ap, ◌∙◌}
use Rattle.std.specs.Str.{bytes_eq}
use Rattle.std.proofs.lemmas.Bool.{cases_Bool, or_left, or_right}
use Rattle.esql_ast.specs.declared.query.NameAt.{NameAt}
use Rattle.esql_ast.specs.declared.uses.SourceUse.{SourceUse}
use Rattle.ndjson_load.specs.Over.{BytesOf}
use Rattle.policy_json.specs.declared.policy.PolicyText.{PolicyText}
use Rattle.table_files.specs.declared.tables.FoundTable.{FoundTable}
use Rattle.table_files.specs.Catalog.{mapping_file, row_file, policy_file, NamesTable, table, AddsTable, known, one_more, AddsTables, fits, AddsNamed, AddsUse, Gathers, Rows, RowsOf, vanished, wide_rows, bad_row, rows, Loads, no_tables, stops, stops_later, more_rows}
use Rattle.table_files.specs.Found.{Found, absent_table, has_table}
use Rattle.table_files.specs.Halts.{Halt}
use Rattle.table_files.specs.Policies.{entries_of_text, tables_named}
use Rattle.table_files.specs.Shapes.{entries_in}
use Rattle.table_files.proofs.Alike.{holds_alike, document_alike, rows_alike, joined, joined_here, joined_there, same_bytes, turned, rows_of, mapping_no_rows, policy_no_rows}
use Rattle.table_files.proofs.Grown.{DifferInName, table_named, named_first, named_behind, named_has, no_other}
use Rattle.table_files.proofs.Steps.{in_turn_back_to}

-- ---- other row files

-- the other holds the same mappings and documents, and each row file that is held
pub record Replaces (folder : Option (List ℕ)) (held other : BytesOf) : Type 0 where
  pub mappings : (name : List ℕ) → other (mapping_file folder name) ≡ held (mapping_file folder name)
  pub documents : (name : List ℕ) → other (policy_file folder name) ≡ held (policy_file folder name)
  pub row_files : (name lines : List ℕ) → held (row_file folder name) ≡ Some lines → (bytes : List ℕ) × (other (row_file folder name) ≡ Some bytes)

module _ (folder : Option (List ℕ)) (held other : BytesOf) (is : Replaces folder held other) where
  name_replaced : (policy : Bool) (entries : ℕ) (name : NameAt) (new : FoundTable) → NamesTable folder held policy entries name (Ok new) → NamesTable folder other policy entries name (Ok new)
  name_replaced policy entries name new (table bytes lines columns holds at mapping few) =
      let (others, there) = is.row_files name.name lines at in
      table bytes others columns (holds_alike held other (mapping_file folder name.name) bytes (is.mappings name.name) holds) there mapping few

  table_replaced : (policy : Bool) (beside : ℕ) (found : Found) (name : NameAt) (next : Found) → AddsTable folder (Some held) policy beside found name (Ok next) → AddsTable folder (Some other) policy beside found name (Ok next)
  table_replaced policy beside found name next (known has) = known has
  table_replaced policy beside found name next (one_more new lacks named) = one_more new lacks (name_replaced policy (entries_in found + beside) name new named)

  tables_replaced : (found : Found) (name : NameAt) (policy : PolicyText) (next : Found) → AddsTables folder (Some held) found name policy (Ok next) → AddsTables folder (Some other) found name policy (Ok next)
  tables_replaced found name policy next adds =
      in_turn_back_to (AddsTable folder (Some held) true (entries_of_text policy)) (AddsTable folder (Some other) true (entries_of_text policy)) (λ (state : Found). Unit {0}) (λ state item after step all. tt)
      (λ state item after all step. table_replaced true (entries_of_text policy) state item after step) found (tables_named name policy) next tt adds

  named_replaced : (policy : Bool) (found : Found) (name : NameAt) (next : Found) → AddsNamed folder (Some held) policy found name (Ok next) → AddsNamed folder (Some other) policy found name (Ok next)
  named_replaced false found name next adds = table_replaced false 0 found name next adds
  named_replaced true found name next (fits policy new shape named adds shape_is) =
      fits policy new shape (document_alike folder held other (entries_in found) name (Ok policy) (is.documents name.name) named) (tables_replaced found name policy new adds) shape_is

  pub gathers_replaced : (found : Found) (uses : List SourceUse) (last : Found) → Gathers folder (Some held) found uses (Ok last) → Gathers folder (Some other) found uses (Ok last)
  gathers_replaced found uses last gathers =
      in_turn_back_to (AddsUse folder (Some held)) (AddsUse folder (Some other)) (λ (state : Found). Unit {0}) (λ state item after step all. tt)
      (λ state item after all step. named_replaced item.policy state item.name after step) found uses last tt gathers

-- ---- one other row file

abbrev pub set_row : Option (List ℕ) → List ℕ → Option (List ℕ) → BytesOf → BytesOf
set_row folder name bytes held = joined (λ (file : List ℕ). bytes_eq file (row_file folder name)) (λ file. bytes) held

module _ (folder : Option (List ℕ)) (name : List ℕ) (bytes : Option (List ℕ)) (held : BytesOf) where
  pub row_here : (other : List ℕ) → bytes_eq other name ≡ true → set_row folder name bytes held (row_file folder other) ≡ bytes
  row_here other same = joined_here (λ (file : List ℕ). bytes_eq file (row_file folder name)) (λ file. bytes) held (row_file folder other) (rows_of folder other name ∙ same)

  pub row_there : (other : List ℕ) → bytes_eq other name ≡ false → set_row folder name bytes held (row_file folder other) ≡ held (row_file folder other)
  row_there other not = joined_there (λ (file : List ℕ). bytes_eq file (row_file folder name)) (λ file. bytes) held (row_file folder other) (rows_of folder other name ∙ not)

  pub mapping_kept : (other : List ℕ) → set_row folder name bytes held (mapping_file folder other) ≡ held (mapping_file folder other)
  mapping_kept other = joined_there (λ (file : List ℕ). bytes_eq file (row_file folder name)) (λ file. bytes) held (mapping_file folder other) (mapping_no_rows folder other name)

  pub document_kept : (other : List ℕ) → set_row folder name bytes held (policy_file folder other) ≡ held (policy_file folder other)
  document_kept other = joined_there (λ (file : List ℕ). bytes_eq file (row_file folder name)) (λ file. bytes) held (policy_file folder other) (policy_no_rows folder other name)

replaces_same : (folder : Option (List ℕ)) (held : BytesOf) → Replaces folder held held
replaces_same folder held = record { mappings = λ name. refl; documents = λ name. refl; row_files = λ name lines is. (lines, is) }

replaces_row : (folder : Option (List ℕ)) (name bytes : List ℕ) (held other : BytesOf) → Replaces folder held other → Replaces folder held (set_row folder name (Some bytes) other)
replaces_row folder name bytes held other is = record {
  mappings = λ one. mapping_kept folder name (Some bytes) other one ∙ is.mappings one;
  documents = λ one. document_kept folder name (Some bytes) other one ∙ is.documents one;
  row_files = λ one lines at.
      ⊎_elim
      (λ (same : bytes_eq one name ≡ true). (bytes, row_here folder name (Some bytes) other one same))
      (λ (not : bytes_eq one name ≡ false). let (others, there) = is.row_files one lines at in (others, row_there folder name (Some bytes) other one not ∙ there))
      (cases_Bool (bytes_eq one name));
}

-- ---- the rows of a table

-- the row file is gone, or what it holds is read so over all contents that hold it
data ReadsRow (folder : Option (List ℕ)) (found : FoundTable) (read : Result Rows Halt) : Type 0 where
  gone : read ≡ Err (absent_table found) → ReadsRow folder found read
  there : (bytes : List ℕ) → ((held : BytesOf) → held (row_file folder found.name) ≡ Some bytes → RowsOf folder held found read) → ReadsRow folder found read

reads_row : (folder : Option (List ℕ)) (held : BytesOf) (found : FoundTable) (read : Result Rows Halt) → RowsOf folder held found read → ReadsRow folder found read
reads_row folder held found read (vanished none) = gone refl
reads_row folder held found read (wide_rows wide) = there wide.bytes (λ other is. wide_rows (record { bytes = wide.bytes; is = is; wide = wide.wide }))
reads_row folder held found read (bad_row bytes fault holds faulty) = there bytes (λ other is. bad_row bytes fault (record { is = is; fits = holds.fits }) faulty)
reads_row folder held found read (rows bytes all holds of) = there bytes (λ other is. rows bytes all (record { is = is; fits = holds.fits }) of)

-- ---- tables in turn

loads_alike : (folder : Option (List ℕ)) (held other : BytesOf) (founds : List FoundTable) (result : Result (List Rows) Halt)
    → ((name : List ℕ) → has_table founds name ≡ true → other (row_file folder name) ≡ held (row_file folder name)) → Loads folder (Some held) founds result → Loads folder (Some other) founds result
loads_alike folder held other [] result alike no_tables = no_tables
loads_alike folder held other (found ∷ founds) result alike (stops _ _ halt has) =
    stops found founds halt (rows_alike folder held other found (Err halt) (alike found.name (or_left (bytes_eq found.name found.name) (has_table founds found.name) (same_bytes found.name))) has)
loads_alike folder held other (found ∷ founds) result alike (stops_later _ _ read halt has later) =
    stops_later found founds read halt (rows_alike folder held other found (Ok read) (alike found.name (or_left (bytes_eq found.name found.name) (has_table founds found.name) (same_bytes found.name))) has)
    (loads_alike folder held other founds (Err halt) (λ name is. alike name (or_right (bytes_eq found.name name) (has_table founds name) is)) later)
loads_alike folder held other (found ∷ founds) result alike (more_rows _ _ read reads has later) =
    more_rows found founds read reads (rows_alike folder held other found (Ok read) (alike found.name (or_left (bytes_eq found.name found.name) (has_table founds found.name) (same_bytes found.name))) has)
    (loads_alike folder held other founds (Ok reads) (λ name is. alike name (or_right (bytes_eq found.name name) (has_table founds name) is)) later)

-- what the tables that are left have, behind the rows of the first
abbrev behind : Rows → Result (List Rows) Halt → Result (List Rows) Halt
behind read (Ok reads) = Ok (read ∷ reads)
behind read (Err halt) = Err halt

loads_behind : (folder : Option (List ℕ)) (held : BytesOf) (found : FoundTable) (founds : List FoundTable) (read : Rows) (loaded : Result (List Rows) Halt) → RowsOf folder held found (Ok read) → Loads folder (Some held) founds loaded
    → Loads folder (Some held) (found ∷ founds) (behind read loaded)
loads_behind folder held found founds read (Ok reads) has loads = more_rows found founds read reads has loads
loads_behind folder held found founds read (Err halt) has loads = stops_later found founds read halt has loads

-- the tables have these rows, or halt so, over contents with other row files
pub record HasLoads (folder : Option (List ℕ)) (base : BytesOf) (founds : List FoundTable) (loaded : Result (List Rows) Halt) : Type 0 where
  pub held : BytesOf
  pub replaces : Replaces folder base held
  pub loads : Loads folder (Some held) founds loaded

-- the row file of a table is gone
pub record IsGone (founds : List FoundTable) (loaded : Result (List Rows) Halt) : Type 0 where
  pub found : FoundTable
  pub named : table_named founds found.name ≡ Some found
  pub is : loaded ≡ Err (absent_table found)

abbrev pub ToldOver : Option (List ℕ) → BytesOf → List FoundTable → Result (List Rows) Halt → Type 0
ToldOver folder base founds loaded = HasLoads folder base founds loaded ⊎ IsGone founds loaded

as_loaded : (halt other : Halt) → ◌≡◌ {A = Result Rows Halt} (Err halt) (Err other) → ◌≡◌ {A = Result (List Rows) Halt} (Err halt) (Err other)
as_loaded halt other is = let same : halt ≡ other = cc in ap Err same

told_stop : (folder : Option (List ℕ)) (base : BytesOf) (found : FoundTable) (founds : List FoundTable) (halt : Halt) → ReadsRow folder found (Err halt) → ToldOver folder base (found ∷ founds) (Err halt)
told_stop folder base found founds halt (gone is) = inr (record { found = found; named = named_first found.name found founds (same_bytes found.name); is = as_loaded halt (absent_table found) is })
told_stop folder base found founds halt (there bytes reads) = inl (record {
  held = set_row folder found.name (Some bytes) base;
  replaces = replaces_row folder found.name bytes base base (replaces_same folder base);
  loads = stops found founds halt (reads (set_row folder found.name (Some bytes) base) (row_here folder found.name (Some bytes) base found.name (same_bytes found.name)));
})

told_behind : (folder : Option (List ℕ)) (base : BytesOf) (found : FoundTable) (founds : List FoundTable) (read : Rows) (loaded : Result (List Rows) Halt) → has_table founds found.name ≡ false → ReadsRow folder found (Ok read)
    → ToldOver folder base founds loaded → ToldOver folder base (found ∷ founds) (behind read loaded)
told_behind folder base found founds read loaded lacks (gone is) rest = absurd cc
told_behind folder base found founds read loaded lacks (there bytes reads) (inl rest) =
    let held : BytesOf = set_row folder found.name (Some bytes) rest.held in
    inl (record {
      held = held;
      replaces = replaces_row folder found.name bytes base rest.held rest.replaces;
      loads = loads_behind folder held found founds read loaded (reads held (row_here folder found.name (Some bytes) rest.held found.name (same_bytes found.name)))
          (loads_alike folder rest.held held founds loaded (λ name has. row_there folder found.name (Some bytes) rest.held name (no_other founds name found.name has lacks)) rest.loads);
    })
told_behind folder base found founds read loaded lacks (there bytes reads) (inr rest) =
    inr (record {
      found = rest.found;
      named = named_behind rest.found.name found founds (turned found.name rest.found.name ∙ no_other founds rest.found.name found.name (named_has rest.found.name founds rest.found rest.named) lacks) ∙ rest.named;
      is = ap (behind read) rest.is;
    })

pub told_loads : (folder : Option (List ℕ)) (base : BytesOf) (founds : List FoundTable) (loaded : Result (List Rows) Halt) → DifferInName founds → Loads folder None founds loaded → ToldOver folder base founds loaded
told_loads folder base [] loaded differ no_tables = inl (record { held = base; replaces = replaces_same folder base; loads = no_tables })
told_loads folder base (found ∷ founds) loaded differ (stops _ _ halt has) = told_stop folder base found founds halt (reads_row folder has.0 found (Err halt) has.1)
told_loads folder base (found ∷ founds) loaded differ (stops_later _ _ read halt has later) =
    told_behind folder base found founds read (Err halt) differ.0 (reads_row folder has.0 found (Ok read) has.1) (told_loads folder base founds (Err halt) differ.1 later)
told_loads folder base (found ∷ founds) loaded differ (more_rows _ _ read reads has later) =
    told_behind folder base found founds read (Ok reads) differ.0 (reads_row folder has.0 found (Ok read) has.1) (told_loads folder base founds (Ok reads) differ.1 later)
