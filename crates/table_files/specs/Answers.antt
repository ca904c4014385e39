-- What `gather` and `load` answer for a query.
use Rattle.std.specs.Prelude.{◌≡◌, ℕ, List, Option, Result, Ok, Err}
use Rattle.esql_io.specs.Files.{Held}
use Rattle.esql_ast.specs.declared.query.Query.{Query}
use Rattle.esql_ast.specs.Uses.{source_names}
use Rattle.table_files.specs.declared.tables.Gathered.{Gathered}
use Rattle.table_files.specs.declared.tables.Loaded.{Loaded}
use Rattle.table_files.specs.Catalog.{Gathers, Loads}
use Rattle.table_files.specs.Catalogs.{catalog_of}
use Rattle.table_files.specs.Found.{found_of, nothing, tables_of}
use Rattle.table_files.specs.Halts.{Halt}

-- what the query uses stands for what was gathered, which has its catalog
pub record IsGathered (folder : Option (List ℕ)) (held : Held) (query : Query) (gathered : Gathered) : Type 0 where
  pub gathers : Gathers folder held nothing (source_names query) (Ok (found_of gathered))
  pub catalog : gathered.catalog ≡ catalog_of (tables_of gathered) gathered.catalog.policies

-- the tables and policies of a query, or where its names halt
abbrev pub GathersQuery : Option (List ℕ) → Held → Query → Result Gathered Halt → Type 0
GathersQuery folder held query (Ok gathered) = IsGathered folder held query gathered
GathersQuery folder held query (Err halt) = Gathers folder held nothing (source_names query) (Err halt)

-- what may be gathered for a query, over some files
abbrev pub MayBeGathered : Option (List ℕ) → Query → Gathered → Type 0
MayBeGathered folder query gathered = (held : Held) × IsGathered folder held query gathered

-- the rows of the tables that were gathered, with their catalog
pub record IsLoaded (folder : Option (List ℕ)) (held : Held) (gathered : Gathered) (loaded : Loaded) : Type 0 where
  pub loads : Loads folder held (tables_of gathered) (Ok loaded.tables)
  pub catalog : loaded.catalog ≡ gathered.catalog

-- the rows of the tables that were gathered, or where these tables halt
abbrev pub LoadsGathered : Option (List ℕ) → Held → Gathered → Result Loaded Halt → Type 0
LoadsGathered folder held gathered (Ok loaded) = IsLoaded folder held gathered loaded
LoadsGathered folder held gathered (Err halt) = Loads folder held (tables_of gathered) (Err halt)
