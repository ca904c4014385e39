-- The tables and policies that the names of a query were found to be.
use Rattle.std.specs.Prelude.{Bool, List, [], ◌∷◌, ◌++◌, ℕ, map}
use Rattle.std.specs.List.{list_any}
use Rattle.std.specs.Str.{bytes_eq}
use Rattle.esql_ast.specs.declared.query.NameAt.{NameAt}
use Rattle.esql_plan.specs.declared.catalog.PolicyShape.{PolicyShape}
use Rattle.table_files.specs.declared.tables.FoundTable.{FoundTable}
use Rattle.table_files.specs.declared.tables.Gathered.{Gathered}
use Rattle.table_files.specs.declared.tables.TableSource.{TableSource}
use Rattle.table_files.specs.declared.tables.TableSource.TheVariants.{Rows}
use Rattle.table_files.specs.Halts.{Halt, absent}

-- tables and policies in the order in which they were found
pub record Found : Type 0 where
  pub tables : List FoundTable
  pub policies : List PolicyShape

abbrev pub nothing : Found
nothing = record { tables = []; policies = [] }

abbrev pub with_table : Found → FoundTable → Found
with_table found table = record { tables = found.tables ++ table ∷ []; policies = found.policies }

abbrev pub with_policy : Found → PolicyShape → Found
with_policy found policy = record { tables = found.tables; policies = found.policies ++ policy ∷ [] }

-- a table of the name is among them
abbrev pub has_table : List FoundTable → List ℕ → Bool
has_table tables name = list_any (λ (table : FoundTable). bytes_eq table.name name) tables

-- the name that a table was found by, and where it stands
abbrev pub name_of : FoundTable → NameAt
name_of table = record { name = table.name; span = table.span }

-- the table is not there
abbrev pub absent_table : FoundTable → Halt
absent_table table = absent table.policy (name_of table)

-- the table whose rows come from a source
abbrev pub table_in : TableSource → FoundTable
table_in (Rows table) = table

-- the tables that were gathered
abbrev pub tables_of : Gathered → List FoundTable
tables_of gathered = map table_in gathered.sources

-- the tables and policies that were gathered
abbrev pub found_of : Gathered → Found
found_of gathered = record { tables = tables_of gathered; policies = gathered.catalog.policies }
