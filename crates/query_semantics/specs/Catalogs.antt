-- The catalogs that queries are judged by.
use Rattle.std.specs.Prelude.{◌≤◌, ℕ, ◌+◌, List, [], ◌∷◌, map, length, All}
use Rattle.std.specs.List.{IsDistinct}
use Rattle.std.specs.Str.{bytes_eq}
use Rattle.esql_plan.specs.declared.catalog.Catalog.{Catalog}
use Rattle.esql_plan.specs.declared.catalog.PolicyShape.{PolicyShape}
use Rattle.esql_plan.specs.declared.catalog.TableShape.{TableShape}
use Rattle.plan_semantics.specs.WellFormed.{IsPolicyTable}
use Rattle.row_semantics.specs.Columns.{HaveDistinctNames}

-- the tables and all of their columns
abbrev pub entries_of : List TableShape → ℕ
entries_of [] = 0
entries_of (table ∷ tables) = 1 + length table.columns + entries_of tables

-- the policies, their tables and their fields
abbrev pub entries_of_policies : List PolicyShape → ℕ
entries_of_policies [] = 0
entries_of_policies (policy ∷ policies) = 1 + length policy.tables + length policy.fields + entries_of_policies policies

-- Tables whose names differ, each with columns whose names differ; policies over them, with the kinds that their columns have; and
-- 400,000 entries at most.
pub record IsCatalog (catalog : Catalog) : Type 0 where
  pub tables : IsDistinct bytes_eq (map (λ (table : TableShape). table.name) catalog.tables)
  pub columns : All (λ (table : TableShape). HaveDistinctNames table.columns) catalog.tables
  pub policies : All (λ (policy : PolicyShape). All (IsPolicyTable catalog policy) policy.tables) catalog.policies
  pub few : entries_of catalog.tables + entries_of_policies catalog.policies ≤ 400000
