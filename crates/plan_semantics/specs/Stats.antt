-- STATS on numbered rows: what groups look at in a row, the row of a group, and the failures.
use Rattle.std.specs.Prelude.{List, [], ◌∷◌, ◌++◌, map, length, Option, Some, None}
use Rattle.esql_types.specs.declared.value.Value.{Value}
use Rattle.esql_types.specs.declared.cause.Failure.{Failure}
use Rattle.esql_types.specs.declared.names.ColId.{ColId}
use Rattle.esql_plan.specs.declared.step.Aggregate.{Aggregate}
use Rattle.esql_plan.specs.declared.step.GroupColumn.{GroupColumn}
use Rattle.esql_plan.specs.Values.{NumberedRow}
use Rattle.plan_semantics.specs.Tables.{empty_row, with_cell}
use Rattle.plan_semantics.specs.Groups.{Entry, rows_of_groups, failures_of_groups}

-- the cell of an aggregate's input, null where it has none
abbrev pub input_cell : NumberedRow → Option ColId → List Value
input_cell row None = []
input_cell row (Some id) = row id.0

-- a row's cells of the columns that rows are grouped by, and those of the aggregates' inputs
abbrev pub entry_of : List Aggregate → List GroupColumn → NumberedRow → Entry
entry_of aggregates groups row = record {
  keys = map (λ (group : GroupColumn). row group.id.0) groups;
  inputs = map (λ (aggregate : Aggregate). input_cell row aggregate.input) aggregates;
}

abbrev pub entries_of : List Aggregate → List GroupColumn → List NumberedRow → List Entry
entries_of aggregates groups rows = map (entry_of aggregates groups) rows

-- the columns that are made, those of the aggregates before those of the groups
abbrev pub stats_columns : List Aggregate → List GroupColumn → List ColId
stats_columns aggregates groups = map (λ (aggregate : Aggregate). aggregate.to) aggregates ++ map (λ (group : GroupColumn). group.to) groups

-- the row with these cells at these columns, and null in every other
abbrev pub row_of_columns : List ColId → List (List Value) → NumberedRow
row_of_columns [] cells = empty_row
row_of_columns (to ∷ columns) [] = empty_row
row_of_columns (to ∷ columns) (cell ∷ cells) = with_cell (row_of_columns columns cells) to.0 cell

-- the row of a group, by its cells: no column that was made before is in it
abbrev pub stats_row : List Aggregate → List GroupColumn → List (List Value) → NumberedRow
stats_row aggregates groups cells = row_of_columns (stats_columns aggregates groups) cells

-- a row for each group
abbrev pub stats_rows : List Aggregate → List GroupColumn → List NumberedRow → List NumberedRow
stats_rows aggregates groups rows = map (stats_row aggregates groups) (rows_of_groups (length groups) aggregates (entries_of aggregates groups rows))

-- the failures of the aggregates, group after group
abbrev pub stats_failures : List Aggregate → List GroupColumn → List NumberedRow → List Failure
stats_failures aggregates groups rows = failures_of_groups (length groups) aggregates (entries_of aggregates groups rows)
