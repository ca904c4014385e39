-- The parts of a plan that can fail: the functions in its expressions, its conditions as far as they have several values, its
-- aggregates, and the conversions of a GROK.
use Rattle.std.specs.Prelude.{ℕ, ◌+◌, ◌≤◌, ◌==◌, Bool, not, List, [], ◌∷◌, ◌++◌, map, length, if◌then◌else◌}
use Rattle.std.specs.List.{flat_map, list_any}
use Rattle.esql_types.specs.declared.value.Value.{Value}
use Rattle.esql_types.specs.declared.cause.Cause.{Cause}
use Rattle.esql_types.specs.declared.cause.Failure.{Failure}
use Rattle.esql_types.specs.declared.names.ColId.{ColId}
use Rattle.esql_types.specs.declared.names.NodeId.{NodeId}
use Rattle.esql_plan.specs.declared.function.Function.{Function}
use Rattle.esql_plan.specs.declared.typed.TypedExpr.{TypedExpr}
use Rattle.esql_plan.specs.declared.typed.TypedForm.TheOpen.{TypedForm-F, Constant, Column, Apply}
use Rattle.esql_plan.specs.declared.typed.TypedForm.TheFolds.{fold-TypedExpr}
use Rattle.esql_plan.specs.declared.plan.Plan.{Plan}
use Rattle.esql_plan.specs.declared.step.Aggregate.{Aggregate}
use Rattle.esql_plan.specs.declared.step.GroupColumn.{GroupColumn}
use Rattle.esql_plan.specs.declared.step.Step.{Step}
use Rattle.esql_plan.specs.declared.step.Step.TheVariants.{Eval, Filter, Sort, TopN, Limit, Expand, Stats, Dissect, Grok, Enrich}
use Rattle.esql_plan.specs.Rules.{Rule, singles, each, list_and_singles, lists, tests, logic, membership, conditions, alternatives, given_singles, given_each, given_list, given_lists, given_logic, given_membership, first_cell, later_cells, multi_of, truth_in, is_null}
use Rattle.esql_plan.specs.Functions.{rule_of}
use Rattle.esql_plan.specs.Values.{Valued, NumberedRow, silent, failures_at, cells_of, applied, is_met, value_of_typed}
use Rattle.plan_semantics.specs.Tables.{CatalogHeld, source_rows}
use Rattle.plan_semantics.specs.Groups.{Key, Entry, keys_of_groups, entries_of_key, aggregate_of, values_at}
use Rattle.plan_semantics.specs.Stats.{entries_of}
use Rattle.plan_semantics.specs.Taken.{grokked}
use Rattle.plan_semantics.specs.Steps.{step_rows}

-- a part that can fail: what it fails with on a row
abbrev pub FalliblePart : Type 0
FalliblePart = NumberedRow → List Failure

-- what an expression gives on a row, and its parts that can fail, in the order of evaluation
pub record Parted : Type 0 where
  pub value : NumberedRow → Valued
  pub parts : List FalliblePart

-- a part that only the rows of a test reach
abbrev pub reached : (NumberedRow → Bool) → FalliblePart → FalliblePart
reached test part row = if test row then part row else []

-- The parts of the arguments of a function ---------------------------------------------------------------------------------

-- Each condition of CASE is reached by the rows on which none before it is true, and what stands behind it by those on which
-- it is the first that is true.
abbrev pub parts_of_case : List Parted → List FalliblePart
parts_of_case [] = []
parts_of_case (otherwise ∷ []) = otherwise.parts
parts_of_case (condition ∷ part ∷ rest) =
    condition.parts
    ++ (map (reached (λ row. is_met (truth_in (condition.value row).cell))) part.parts
    ++ map (reached (λ row. not (is_met (truth_in (condition.value row).cell)))) (parts_of_case rest))

-- Each argument of COALESCE is reached by the rows on which all before it are null.
abbrev pub parts_of_coalesce : List Parted → List FalliblePart
parts_of_coalesce [] = []
parts_of_coalesce (part ∷ rest) = part.parts ++ map (reached (λ row. is_null (part.value row).cell)) (parts_of_coalesce rest)

-- the parts of arguments that each row reaches
abbrev pub parts_of_all : List Parted → List FalliblePart
parts_of_all args = flat_map (λ arg. arg.parts) args

-- each row reaches all arguments of any other function
abbrev pub parts_by : Rule → List Parted → List FalliblePart
parts_by (singles function) args = parts_of_all args
parts_by (each function) args = parts_of_all args
parts_by (list_and_singles function) args = parts_of_all args
parts_by (lists function) args = parts_of_all args
parts_by (tests function) args = parts_of_all args
parts_by (logic function) args = parts_of_all args
parts_by (membership function) args = parts_of_all args
parts_by conditions args = parts_of_case args
parts_by alternatives args = parts_of_coalesce args

-- The failures of a function itself -----------------------------------------------------------------------------------------

-- the conditions of CASE that are reached and have several values
abbrev pub case_causes : List (List Value) → List Cause
case_causes [] = []
case_causes (otherwise ∷ []) = []
case_causes (condition ∷ part ∷ rest) = multi_of condition ++ (if is_met (truth_in condition) then [] else case_causes rest)

-- what a function fails with itself, by the cells of its arguments
abbrev pub causes_by : Rule → List (List Value) → List Cause
causes_by (singles function) cells = (given_singles function cells).causes
causes_by (each function) cells = (given_each function (first_cell cells)).causes
causes_by (list_and_singles function) cells = (given_list function (first_cell cells) (later_cells cells)).causes
causes_by (lists function) cells = (given_lists function cells).causes
causes_by (tests function) cells = []
causes_by (logic function) cells = (given_logic function cells).causes
causes_by (membership function) cells = (given_membership function (first_cell cells) (later_cells cells)).causes
causes_by conditions cells = case_causes cells
causes_by alternatives cells = []

-- the failures of the node itself, without those of its arguments
abbrev pub own_part : Function → NodeId → List Parted → FalliblePart
own_part function node args row = failures_at node (causes_by (rule_of function) (cells_of (map (λ arg. arg.value row) args)))

-- Expressions, steps and plans ------------------------------------------------------------------------------------------------

-- constants and columns cannot fail
abbrev pub parted_form : TypedForm-F (NodeId → Parted) Parted → NodeId → Parted
parted_form (Constant cell) node = record { value = λ row. silent cell; parts = [] }
parted_form (Column id) node = record { value = λ row. silent (row id.0); parts = [] }
parted_form (Apply function args pattern) node = record {
  value = λ row. applied function node (map (λ arg. arg.value row) args);
  parts = parts_by (rule_of function) args ++ own_part function node args ∷ [];
}

-- the parts of the arguments first, those of the function itself last
abbrev pub parted : TypedExpr → Parted
parted = fold-TypedExpr (NodeId → Parted) Parted parted_form (λ expr. expr.form expr.node)

-- what parts fail with on a row, one after another
abbrev pub fails_in : List FalliblePart → NumberedRow → List Failure
fails_in parts row = flat_map (λ part. part row) parts

-- what each part fails with over rows, or over groups
abbrev pub over_rows : {Row : Type 0} → List (Row → List Failure) → List Row → List (List Failure)
over_rows parts rows = map (λ part. flat_map part rows) parts

-- a condition fails itself where it has several values
abbrev pub condition_part : NodeId → TypedExpr → FalliblePart
condition_part node condition row = failures_at node (multi_of (value_of_typed condition row).cell)

-- all columns of a GROK are one part
abbrev pub grok_part : NodeId → ColId → List ℕ → ℕ → FalliblePart
grok_part node input pattern count row = (grokked node pattern count (row input.0)).failures

-- what an aggregate of the inputs at a place fails with in the group of a key
abbrev pub aggregate_part : ℕ → Aggregate → List Entry → Key → List Failure
aggregate_part place aggregate entries key =
    let own : List Entry = entries_of_key key entries in
    failures_at aggregate.node (aggregate_of aggregate.function (length own) (values_at place own)).causes

-- aggregates, the first of them of the inputs at a place and the others of those behind it
abbrev pub aggregate_parts : ℕ → List Aggregate → List Entry → List (Key → List Failure)
aggregate_parts place [] entries = []
aggregate_parts place (aggregate ∷ aggregates) entries = aggregate_part place aggregate entries ∷ aggregate_parts (place + 1) aggregates entries

-- what each aggregate fails with over all groups
abbrev pub stats_parts : List Aggregate → List GroupColumn → List NumberedRow → List (List Failure)
stats_parts aggregates groups rows =
    let entries : List Entry = entries_of aggregates groups rows in
    over_rows (aggregate_parts 0 aggregates entries) (keys_of_groups (length groups) entries)

-- what each part of a step fails with over rows
abbrev pub step_parts : Step → List NumberedRow → List (List Failure)
step_parts (Eval to expr) rows = over_rows (parted expr).parts rows
step_parts (Filter node condition) rows = over_rows ((parted condition).parts ++ condition_part node condition ∷ []) rows
step_parts (Expand id to) rows = []
step_parts (Sort keys) rows = []
step_parts (TopN keys count) rows = []
step_parts (Limit count) rows = []
step_parts (Stats aggregates groups) rows = stats_parts aggregates groups rows
step_parts (Dissect node input cutter pattern separator to) rows = []
step_parts (Grok node input cutter pattern to) rows = over_rows (grok_part node input pattern (length to) ∷ []) rows
step_parts (Enrich policy on fields to) rows = []

-- what each part of steps fails with over all rows that come to it
abbrev pub parts_after : CatalogHeld → List Step → List NumberedRow → List (List Failure)
parts_after held [] rows = []
parts_after held (step ∷ steps) rows = step_parts step rows ++ parts_after held steps (step_rows held step rows)

-- what each part of a plan fails with over a catalog whose tables have their rows
abbrev pub plan_parts : Plan → CatalogHeld → List (List Failure)
plan_parts plan held = parts_after held plan.steps (source_rows held.tables plan.source)

-- Orderly ------------------------------------------------------------------------------------------------------------------------

-- some failure is of the node
abbrev pub fails_at : NodeId → List Failure → Bool
fails_at node failures = list_any (λ failure. failure.node.0 == node.0) failures

-- how many items pass a test
abbrev pub count_of : {Item : Type 0} → (Item → Bool) → List Item → ℕ
count_of test [] = 0
count_of test (item ∷ items) = (if test item then 1 else 0) + count_of test items

-- each node fails in one part of the steps at most
abbrev pub AreOrderly : CatalogHeld → List Step → List NumberedRow → Type 0
AreOrderly held steps rows = (node : NodeId) → count_of (fails_at node) (parts_after held steps rows) ≤ 1

-- each node fails in one part of the plan at most
abbrev pub IsOrderly : Plan → CatalogHeld → Type 0
IsOrderly plan held = AreOrderly held plan.steps (source_rows held.tables plan.source)

-- each node fails in one part of the expression at most, over these rows
abbrev pub IsExprOrderly : TypedExpr → List NumberedRow → Type 0
IsExprOrderly expr rows = (node : NodeId) → count_of (fails_at node) (over_rows (parted expr).parts rows) ≤ 1
