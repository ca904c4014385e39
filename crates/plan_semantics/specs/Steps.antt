-- The steps of a plan, as functions of the rows that come to them.
use Rattle.std.specs.Prelude.{ℕ, Bool, true, false, List, [], ◌∷◌, ◌++◌, length, map, take, if◌then◌else◌}
use Rattle.std.specs.List.{flat_map}
use Rattle.esql_types.specs.declared.value.Value.{Value}
use Rattle.esql_types.specs.declared.cause.Failure.{Failure}
use Rattle.esql_types.specs.declared.names.NodeId.{NodeId}
use Rattle.function_rules.specs.Lists.{sorted_by}
use Rattle.esql_plan.specs.declared.step.Step.{Step}
use Rattle.esql_plan.specs.declared.step.Step.TheVariants.{Eval, Filter, Sort, TopN, Limit, Expand, Stats, Dissect, Grok, Enrich}
use Rattle.esql_plan.specs.Rules.{truth_in, multi_of}
use Rattle.esql_plan.specs.Values.{Valued, NumberedRow, failures_at, is_met, value_of_typed}
use Rattle.plan_semantics.specs.Tables.{CatalogHeld, with_cell}
use Rattle.plan_semantics.specs.Orders.{order_of_rows}
use Rattle.plan_semantics.specs.Stats.{stats_rows, stats_failures}
use Rattle.plan_semantics.specs.Taken.{dissected, grokked, enriched, with_new}

-- the cell of a condition is true; null is not, nor are several values
abbrev pub is_true : List Value → Bool
is_true cell = is_met (truth_in cell)

-- a condition of several values is one failure of the node, behind the failures of the condition's value
abbrev pub failures_of_condition : NodeId → Valued → List Failure
failures_of_condition node condition = condition.failures ++ failures_at node (multi_of condition.cell)

-- a row for each value, with that value alone at the column number; one row, with null there, where there is none
abbrev pub expanded : NumberedRow → ℕ → List Value → List NumberedRow
expanded row id [] = with_cell row id [] ∷ []
expanded row id (value ∷ values) = map (λ one. with_cell row id (one ∷ [])) (value ∷ values)

-- The rows that a step makes of one row. Stats makes none of one row: its rows are those of groups.
abbrev pub step_gives : CatalogHeld → Step → NumberedRow → List NumberedRow
step_gives held (Eval to expr) row = with_cell row to.0 (value_of_typed expr row).cell ∷ []
step_gives held (Filter node condition) row = if is_true (value_of_typed condition row).cell then row ∷ [] else []
step_gives held (Expand id to) row = expanded row to.0 (row id.0)
step_gives held (Sort keys) row = row ∷ []
step_gives held (TopN keys count) row = row ∷ []
step_gives held (Limit count) row = row ∷ []
step_gives held (Stats aggregates groups) row = []
step_gives held (Dissect node input cutter pattern separator to) row = with_new row to (dissected pattern separator (length to) (row input.0)).cells ∷ []
step_gives held (Grok node input cutter pattern to) row = with_new row to (grokked node pattern (length to) (row input.0)).cells ∷ []
step_gives held (Enrich policy on fields to) row = with_new row to (enriched held policy fields (row on.0)) ∷ []

-- The failures of a step on one row. Stats fails on groups alone; DISSECT and ENRICH never fail.
abbrev pub step_fails : Step → NumberedRow → List Failure
step_fails (Eval to expr) row = (value_of_typed expr row).failures
step_fails (Filter node condition) row = failures_of_condition node (value_of_typed condition row)
step_fails (Expand id to) row = []
step_fails (Sort keys) row = []
step_fails (TopN keys count) row = []
step_fails (Limit count) row = []
step_fails (Stats aggregates groups) row = []
step_fails (Dissect node input cutter pattern separator to) row = []
step_fails (Grok node input cutter pattern to) row = (grokked node pattern (length to) (row input.0)).failures
step_fails (Enrich policy on fields to) row = []

-- the step makes rows of groups; the rows after any other step have the columns of the rows that come to it
abbrev pub is_stats : Step → Bool
is_stats (Eval to expr) = false
is_stats (Filter node condition) = false
is_stats (Expand id to) = false
is_stats (Sort keys) = false
is_stats (TopN keys count) = false
is_stats (Limit count) = false
is_stats (Stats aggregates groups) = true
is_stats (Dissect node input cutter pattern separator to) = false
is_stats (Grok node input cutter pattern to) = false
is_stats (Enrich policy on fields to) = false

-- the rows after a step: what it makes of each, all in the order of the keys, the first of them, or those of groups
abbrev pub step_rows : CatalogHeld → Step → List NumberedRow → List NumberedRow
step_rows held (Eval to expr) rows = flat_map (step_gives held (Eval to expr)) rows
step_rows held (Filter node condition) rows = flat_map (step_gives held (Filter node condition)) rows
step_rows held (Expand id to) rows = flat_map (step_gives held (Expand id to)) rows
step_rows held (Sort keys) rows = sorted_by (order_of_rows keys) rows
step_rows held (TopN keys count) rows = take count (sorted_by (order_of_rows keys) rows)
step_rows held (Limit count) rows = take count rows
step_rows held (Stats aggregates groups) rows = stats_rows aggregates groups rows
step_rows held (Dissect node input cutter pattern separator to) rows = flat_map (step_gives held (Dissect node input cutter pattern separator to)) rows
step_rows held (Grok node input cutter pattern to) rows = flat_map (step_gives held (Grok node input cutter pattern to)) rows
step_rows held (Enrich policy on fields to) rows = flat_map (step_gives held (Enrich policy on fields to)) rows

-- the failures of a step row after row, those of Stats group after group
abbrev pub step_failures : Step → List NumberedRow → List Failure
step_failures (Eval to expr) rows = flat_map (step_fails (Eval to expr)) rows
step_failures (Filter node condition) rows = flat_map (step_fails (Filter node condition)) rows
step_failures (Expand id to) rows = flat_map (step_fails (Expand id to)) rows
step_failures (Sort keys) rows = flat_map (step_fails (Sort keys)) rows
step_failures (TopN keys count) rows = flat_map (step_fails (TopN keys count)) rows
step_failures (Limit count) rows = flat_map (step_fails (Limit count)) rows
step_failures (Stats aggregates groups) rows = stats_failures aggregates groups rows
step_failures (Dissect node input cutter pattern separator to) rows = flat_map (step_fails (Dissect node input cutter pattern separator to)) rows
step_failures (Grok node input cutter pattern to) rows = flat_map (step_fails (Grok node input cutter pattern to)) rows
step_failures (Enrich policy on fields to) rows = flat_map (step_fails (Enrich policy on fields to)) rows

-- the rows after steps one after another
abbrev pub rows_after : CatalogHeld → List Step → List NumberedRow → List NumberedRow
rows_after held [] rows = rows
rows_after held (step ∷ steps) rows = rows_after held steps (step_rows held step rows)

-- the failures of steps one after another, step by step
abbrev pub failures_after : CatalogHeld → List Step → List NumberedRow → List Failure
failures_after held [] rows = []
failures_after held (step ∷ steps) rows = step_failures step rows ++ failures_after held steps (step_rows held step rows)
