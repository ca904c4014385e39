-- Over files that do not tell what they hold, what is told of uses that differ is told over some contents.
use Rattle.std.specs.Prelude.{◌≡◌, ◌⊎◌, ℕ, List, Option, Some, None, Result, Ok, Err}
use Rattle.std.specs.List.{IsDistinct}
use Rattle.esql_ast.specs.declared.uses.SourceUse.{SourceUse}
use Rattle.esql_ast.specs.UseLaws.{is_same_use}
use Rattle.ndjson_load.specs.Over.{BytesOf}
use Rattle.table_files.specs.declared.tables.FoundTable.{FoundTable}
use Rattle.table_files.specs.Catalog.{Gathers, Rows, Loads}
use Rattle.table_files.specs.Found.{Found, nothing}
use Rattle.table_files.specs.Halts.{Halt}

-- no table and no policy is used twice
abbrev pub AreDifferentUses : List SourceUse → Type 0
AreDifferentUses uses = IsDistinct is_same_use uses

-- the uses stand for what was found, and the tables have these rows or halt so, over one content
pub record HasOneContent (folder : Option (List ℕ)) (uses : List SourceUse) (found : Found) (loaded : Result (List Rows) Halt) : Type 0 where
  pub held : BytesOf
  pub gathers : Gathers folder (Some held) nothing uses (Ok found)
  pub loads : Loads folder (Some held) found.tables loaded

-- a row file is gone after its table was found: over one content the uses halt so
pub record IsGoneSince (folder : Option (List ℕ)) (uses : List SourceUse) (halt : Halt) : Type 0 where
  pub held : BytesOf
  pub gathers : Gathers folder (Some held) nothing uses (Err halt)

-- over files that tell what they hold, uses stand for one thing
abbrev pub OneGathering : Type 0
OneGathering = (folder : Option (List ℕ)) (held : BytesOf) (found : Found) (uses : List SourceUse) (gathered other : Result Found Halt)
    → Gathers folder (Some held) found uses gathered → Gathers folder (Some held) found uses other → gathered ≡ other

-- over files that tell what they hold, tables have one list of rows each
abbrev pub OneLoading : Type 0
OneLoading = (folder : Option (List ℕ)) (held : BytesOf) (tables : List FoundTable) (loaded other : Result (List Rows) Halt)
    → Loads folder (Some held) tables loaded → Loads folder (Some held) tables other → loaded ≡ other

-- what uses that differ stand for
abbrev pub SomeGathering : Type 0
SomeGathering = (folder : Option (List ℕ)) (uses : List SourceUse) (gathered : Result Found Halt) → Gathers folder None nothing uses gathered → AreDifferentUses uses
    → (held : BytesOf) × Gathers folder (Some held) nothing uses gathered

-- what uses that differ stand for, and the rows of the tables
abbrev pub SomeLoading : Type 0
SomeLoading = (folder : Option (List ℕ)) (uses : List SourceUse) (found : Found) (reads : List Rows) → Gathers folder None nothing uses (Ok found) → AreDifferentUses uses
    → Loads folder None found.tables (Ok reads) → HasOneContent folder uses found (Ok reads)

-- what uses that differ stand for, and where the tables halt
abbrev pub SomeHalt : Type 0
SomeHalt = (folder : Option (List ℕ)) (uses : List SourceUse) (found : Found) (halt : Halt) → Gathers folder None nothing uses (Ok found) → AreDifferentUses uses
    → Loads folder None found.tables (Err halt) → HasOneContent folder uses found (Err halt) ⊎ IsGoneSince folder uses halt
