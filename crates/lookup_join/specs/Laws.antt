-- The steps of LOOKUP JOIN over tables with places mean what it means over plain tables.
use Rattle.std.specs.Prelude.{◌≡◌, ℕ, true, false, List, Some, length, slice_get, All}
use Rattle.std.specs.List.{flat_map}
use Rattle.esql_types.specs.declared.value.Kind.{Kind}
use Rattle.esql_types.specs.declared.value.Value.{Value}
use Rattle.esql_types.specs.declared.names.ColId.{ColId}
use Rattle.esql_types.specs.declared.names.Column.{Column}
use Rattle.esql_types.specs.declared.names.NodeId.{NodeId}
use Rattle.esql_plan.specs.declared.step.NewColumn.{NewColumn}
use Rattle.esql_plan.specs.Values.{NumberedRow}
use Rattle.plan_semantics.specs.Tables.{CatalogHeld, TableHeld}
use Rattle.plan_semantics.specs.Steps.{rows_after, failures_after}
use Rattle.lookup_join.specs.Placed.{has_column, key_policy, place_name, placed_table, row_policy}
use Rattle.lookup_join.specs.Joins.{JoinColumns, join_fails, join_steps, joined_rows}

-- a table stands with its places, and its two policies, in the catalog under these numbers
pub record IsExtended (held : CatalogHeld) (table : TableHeld) (column : Column) (number by_key by_place : ℕ) : Type 0 where
  pub placed : slice_get held.tables number ≡ Some (placed_table table)
  pub key : slice_get held.policies by_key ≡ Some (key_policy number table.shape column)
  pub row : slice_get held.policies by_place ≡ Some (row_policy number table.shape)

-- a column of the table has the column's name, and each row has a cell for each column
pub record IsJoinable (table : TableHeld) (column : Column) : Type 0 where
  pub there : has_column table.shape.columns column.name ≡ true
  pub wide : All (λ (row : List (List Value)). length row ≡ length table.shape.columns) table.rows

-- the rows after the steps are those of the join, row after row
abbrev pub JoinMeansItsSteps : Type 0
JoinMeansItsSteps = (held : CatalogHeld) (table : TableHeld) (column : Column) (number by_key by_place : ℕ) (node : NodeId) (kind : Kind) (on : ColId) (kept : JoinColumns) (numbers : List ℕ) (to : List NewColumn)
    (rows : List NumberedRow) → IsExtended held table column number by_key by_place → IsJoinable table column
    → rows_after held (join_steps node kind on kept by_key by_place numbers to) rows ≡ flat_map (joined_rows table column.name on kept numbers to) rows

-- the failures of the steps are those of the join, row after row
abbrev pub JoinFailsAsItsSteps : Type 0
JoinFailsAsItsSteps = (held : CatalogHeld) (node : NodeId) (kind : Kind) (on : ColId) (kept : JoinColumns) (by_key by_place : ℕ) (numbers : List ℕ) (to : List NewColumn) (rows : List NumberedRow)
    → failures_after held (join_steps node kind on kept by_key by_place numbers to) rows ≡ flat_map (join_fails node on) rows

-- the name of the column of places is no column's
abbrev pub PlaceNameIsFree : Type 0
PlaceNameIsFree = (columns : List Column) → has_column columns (place_name columns) ≡ false
