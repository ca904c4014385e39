-- What groups are seen as.
use Rattle.std.specs.Prelude.{List, ◌++◌, ◌∷◌, [], length, map, Option}
use Rattle.std.specs.Option.{option_map}
use Rattle.esql_types.specs.declared.cause.Failure.{Failure}
use Rattle.esql_types.specs.declared.value.Value.{Value}
use Rattle.esql_plan.specs.declared.step.Aggregate.{Aggregate}
use Rattle.esql_plan.specs.declared.step.GroupColumn.{GroupColumn}
use Rattle.plan_semantics.specs.Groups.{Entry, rows_of_groups, failures_of_groups}
use Rattle.plan_semantics.specs.Stats.{stats_columns}
use Rattle.stats_groups.specs.Cells.{put_cells}

-- The columns that rows are grouped by, the aggregates, and what groups look at in the rows that were added, in order; no rows
-- at all after want of memory, from when on the groups are of no further use.
pub record Grouped : Type 0 where
  pub columns : List GroupColumn
  pub aggregates : List Aggregate
  pub entries : Option (List Entry)

-- groups with one more row
abbrev pub with_entry : Entry → Grouped → Grouped
with_entry entry grouped =
    record { columns = grouped.columns; aggregates = grouped.aggregates; entries = option_map (λ entries. entries ++ entry ∷ []) grouped.entries }

-- a row for each group of some rows, with its cells at the columns that are made of them
abbrev pub rows_made : List GroupColumn → List Aggregate → List Entry → List (List (List Value))
rows_made columns aggregates entries = map (put_cells [] (stats_columns aggregates columns)) (rows_of_groups (length columns) aggregates entries)

-- a row for each group
abbrev pub rows_grouped : Grouped → Option (List (List (List Value)))
rows_grouped grouped = option_map (rows_made grouped.columns grouped.aggregates) grouped.entries

-- the failures of the aggregates, group after group
abbrev pub failures_grouped : Grouped → Option (List Failure)
failures_grouped grouped = option_map (failures_of_groups (length grouped.columns) grouped.aggregates) grouped.entries
