-- The steps of a plan on rows as they are kept: cells in the order of the column numbers, with null behind the last.
use Rattle.std.specs.Prelude.{ℕ, List, [], ◌∷◌, ◌++◌, Option, Some, None, map, take, length, slice_index_or, if◌then◌else◌}
use Rattle.std.specs.List.{flat_map}
use Rattle.std.specs.declared.cmp.Ordering.{Ordering}
use Rattle.esql_types.specs.declared.value.Value.{Value}
use Rattle.esql_types.specs.declared.cause.Failure.{Failure}
use Rattle.esql_types.specs.declared.names.ColId.{ColId}
use Rattle.function_rules.specs.Lists.{sorted_by}
use Rattle.esql_plan.specs.declared.step.Step.{Step}
use Rattle.esql_plan.specs.declared.typed.TypedExpr.{TypedExpr}
use Rattle.esql_plan.specs.declared.step.PlanKey.{PlanKey}
use Rattle.esql_plan.specs.declared.step.Aggregate.{Aggregate}
use Rattle.esql_plan.specs.declared.step.GroupColumn.{GroupColumn}
use Rattle.esql_plan.specs.declared.step.NewColumn.{NewColumn}
use Rattle.esql_plan.specs.declared.step.Step.TheVariants.{Eval, Filter, Sort, TopN, Limit, Expand, Stats, Dissect, Grok, Enrich}
use Rattle.esql_plan.specs.Values.{NumberedRow, value_of_typed}
use Rattle.esql_scalar.specs.Rows.{row_of}
use Rattle.plan_semantics.specs.Orders.{order_of_rows}
use Rattle.plan_semantics.specs.Tables.{CatalogHeld}
use Rattle.plan_semantics.specs.Taken.{Taken, dissected, grokked, enriched}
use Rattle.plan_semantics.specs.Groups.{rows_of_groups}
use Rattle.plan_semantics.specs.Stats.{entries_of, stats_columns, stats_failures}
use Rattle.plan_semantics.specs.Steps.{is_true, step_fails}
use Rattle.stats_groups.specs.Cells.{put_cell, put_cells}

-- rows of cells in the order of the column numbers
abbrev pub rows_of : List (List (List Value)) → List NumberedRow
rows_of rows = map row_of rows

-- a row for each value, with that value alone at the column number; one row, with null there, where there is none
abbrev pub expanded_cells : List (List Value) → ℕ → List Value → List (List (List Value))
expanded_cells row id [] = put_cell row id [] ∷ []
expanded_cells row id (value ∷ values) = map (λ one. put_cell row id (one ∷ [])) (value ∷ values)

-- the values of another cell, if there is one, behind those of a cell
abbrev pub values_behind : List Value → Option (List Value) → List Value
values_behind cell None = cell
values_behind cell (Some other) = cell ++ other

-- the row with a cell in each of new columns; null where there is none for it
abbrev pub kept_new : List (List Value) → List NewColumn → List (List Value) → List (List Value)
kept_new row [] cells = row
kept_new row (new ∷ more) [] = kept_new (put_cell row new.id.0 []) more []
kept_new row (new ∷ more) (cell ∷ cells) = kept_new (put_cell row new.id.0 cell) more cells

-- the row with the value of an expression in a column
abbrev pub kept_eval : ColId → TypedExpr → List (List Value) → List (List (List Value))
kept_eval to expr row = put_cell row to.0 (value_of_typed expr (row_of row)).cell ∷ []

-- the row where a condition is true on it
abbrev pub kept_if : TypedExpr → List (List Value) → List (List (List Value))
kept_if condition row = if is_true (value_of_typed condition (row_of row)).cell then row ∷ [] else []

-- a row for each value of a column
abbrev pub kept_expanded : ColId → ColId → List (List Value) → List (List (List Value))
kept_expanded id to row = expanded_cells row to.0 (slice_index_or row id.0 [])

-- the row with what the values of a column give in new columns
abbrev pub kept_taken : (ℕ → List Value → Taken) → ColId → List NewColumn → List (List Value) → List (List (List Value))
kept_taken take input to row = kept_new row to (take (length to) (slice_index_or row input.0 [])).cells ∷ []

-- the row with the cells of fields of a policy in new columns
abbrev pub kept_enriched : (List Value → List (List Value)) → ColId → List NewColumn → List (List Value) → List (List (List Value))
kept_enriched find on to row = kept_new row to (find (slice_index_or row on.0 [])) ∷ []

-- the rows that a step makes of one row
abbrev pub kept_gives : CatalogHeld → Step → List (List Value) → List (List (List Value))
kept_gives held (Eval to expr) row = kept_eval to expr row
kept_gives held (Filter node condition) row = kept_if condition row
kept_gives held (Expand id to) row = kept_expanded id to row
kept_gives held (Sort keys) row = row ∷ []
kept_gives held (TopN keys count) row = row ∷ []
kept_gives held (Limit count) row = row ∷ []
kept_gives held (Stats aggregates groups) row = []
kept_gives held (Dissect node input cutter pattern separator to) row = kept_taken (dissected pattern separator) input to row
kept_gives held (Grok node input cutter pattern to) row = kept_taken (grokked node pattern) input to row
kept_gives held (Enrich policy on fields to) row = kept_enriched (enriched held policy fields) on to row

-- rows by keys
abbrev pub order_of_kept : List PlanKey → List (List Value) → List (List Value) → Ordering
order_of_kept keys this that = order_of_rows keys (row_of this) (row_of that)

-- a row for each group, with null in every column that is not made
abbrev pub kept_stats : List Aggregate → List GroupColumn → List (List (List Value)) → List (List (List Value))
kept_stats aggregates groups rows = map (put_cells [] (stats_columns aggregates groups)) (rows_of_groups (length groups) aggregates (entries_of aggregates groups (rows_of rows)))

-- the rows after a step
abbrev pub kept_rows : CatalogHeld → Step → List (List (List Value)) → List (List (List Value))
kept_rows held (Eval to expr) rows = flat_map (kept_gives held (Eval to expr)) rows
kept_rows held (Filter node condition) rows = flat_map (kept_gives held (Filter node condition)) rows
kept_rows held (Expand id to) rows = flat_map (kept_gives held (Expand id to)) rows
kept_rows held (Sort keys) rows = sorted_by (order_of_kept keys) rows
kept_rows held (TopN keys count) rows = take count (sorted_by (order_of_kept keys) rows)
kept_rows held (Limit count) rows = take count rows
kept_rows held (Stats aggregates groups) rows = kept_stats aggregates groups rows
kept_rows held (Dissect node input cutter pattern separator to) rows = flat_map (kept_gives held (Dissect node input cutter pattern separator to)) rows
kept_rows held (Grok node input cutter pattern to) rows = flat_map (kept_gives held (Grok node input cutter pattern to)) rows
kept_rows held (Enrich policy on fields to) rows = flat_map (kept_gives held (Enrich policy on fields to)) rows

-- the failures of a step row after row, those of Stats group after group
abbrev pub kept_failures : Step → List (List (List Value)) → List Failure
kept_failures (Eval to expr) rows = flat_map (λ row. step_fails (Eval to expr) (row_of row)) rows
kept_failures (Filter node condition) rows = flat_map (λ row. step_fails (Filter node condition) (row_of row)) rows
kept_failures (Expand id to) rows = flat_map (λ row. step_fails (Expand id to) (row_of row)) rows
kept_failures (Sort keys) rows = flat_map (λ row. step_fails (Sort keys) (row_of row)) rows
kept_failures (TopN keys count) rows = flat_map (λ row. step_fails (TopN keys count) (row_of row)) rows
kept_failures (Limit count) rows = flat_map (λ row. step_fails (Limit count) (row_of row)) rows
kept_failures (Stats aggregates groups) rows = stats_failures aggregates groups (rows_of rows)
kept_failures (Dissect node input cutter pattern separator to) rows = flat_map (λ row. step_fails (Dissect node input cutter pattern separator to) (row_of row)) rows
kept_failures (Grok node input cutter pattern to) rows = flat_map (λ row. step_fails (Grok node input cutter pattern to) (row_of row)) rows
kept_failures (Enrich policy on fields to) rows = flat_map (λ row. step_fails (Enrich policy on fields to) (row_of row)) rows
