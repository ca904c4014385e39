-- The numbers of tables by their names, and the entries of their catalog.
use Rattle.std.specs.Prelude.{◌≡◌, ℕ, List, Option, Some, None, if◌then◌else◌}
use Rattle.std.specs.List.{list_any}
use Rattle.std.specs.Option.{is_some}
use Rattle.std.specs.Str.{bytes_eq}
use Rattle.esql_plan.specs.declared.catalog.PolicyShape.{PolicyShape}
use Rattle.table_files.specs.declared.tables.FoundTable.{FoundTable}
use Rattle.table_files.specs.Found.{has_table}
use Rattle.table_files.specs.Policies.{number_of}
use Rattle.table_files.specs.Shapes.{entries_in}

-- the number of the first table of a name, if there is one
abbrev pub number_if : List FoundTable → List ℕ → Option ℕ
number_if tables name = if has_table tables name then Some (number_of tables name) else None

-- each name has its number, and the entries are those of the catalog
pub record AreCounted (number : List ℕ → Option ℕ) (entries : ℕ) (tables : List FoundTable) (policies : List PolicyShape) : Type 0 where
  pub numbers : (name : List ℕ) → number name ≡ number_if tables name
  pub entries_are : entries ≡ entries_in (record { tables = tables; policies = policies })

-- the names, and no others, are known
abbrev pub AreKnown : {A : Type 0} → (List ℕ → Option A) → List (List ℕ) → Type 0
AreKnown known names = (name : List ℕ) → is_some (known name) ≡ list_any (λ one. bytes_eq one name) names
