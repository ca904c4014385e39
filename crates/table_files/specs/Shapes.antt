-- The entries of what was found, and names that differ.
use Rattle.std.specs.Prelude.{ℕ, ◌+◌, List, [], ◌∷◌, length}
use Rattle.std.specs.List.{IsDistinct}
use Rattle.std.specs.Str.{bytes_eq}
use Rattle.esql_plan.specs.declared.catalog.PolicyShape.{PolicyShape}
use Rattle.table_files.specs.declared.tables.FoundTable.{FoundTable}
use Rattle.table_files.specs.Found.{Found}

-- the entries of a catalog of tables: the tables and their columns
abbrev pub entries_of : List FoundTable → ℕ
entries_of [] = 0
entries_of (table ∷ tables) = 1 + length table.columns + entries_of tables

-- the entries of policies: each with its tables and its fields
abbrev pub entries_of_policies : List PolicyShape → ℕ
entries_of_policies [] = 0
entries_of_policies (policy ∷ policies) = 1 + length policy.tables + length policy.fields + entries_of_policies policies

-- the entries of the catalog of what was found
abbrev pub entries_in : Found → ℕ
entries_in found = entries_of_policies found.policies + entries_of found.tables

-- no two names are equal
abbrev pub AreApart : List (List ℕ) → Type 0
AreApart names = IsDistinct bytes_eq names
