-- The value of a typed expression on a row, with its failures.
use Rattle.std.specs.Prelude.{ℕ, Bool, false, List, [], ◌∷◌, ◌++◌, map, Option, Some, None, if◌then◌else◌}
use Rattle.std.specs.List.{flat_map}
use Rattle.esql_types.specs.declared.value.Value.{Value}
use Rattle.esql_types.specs.declared.value.Value.TheVariants.{Bool as Boolean}
use Rattle.esql_types.specs.declared.cause.Cause.{Cause}
use Rattle.esql_types.specs.declared.cause.Failure.{Failure}
use Rattle.esql_types.specs.declared.names.NodeId.{NodeId}
use Rattle.esql_plan.specs.declared.function.Function.{Function}
use Rattle.esql_plan.specs.declared.typed.TypedExpr.{TypedExpr}
use Rattle.esql_plan.specs.declared.typed.TypedForm.TheOpen.{TypedForm-F, Constant, Column, Apply}
use Rattle.esql_plan.specs.declared.typed.TypedForm.TheFolds.{fold-TypedExpr}
use Rattle.esql_plan.specs.Rules.{Rule, singles, each, list_and_singles, lists, tests, logic, membership, conditions, alternatives, Given, given_one, given_singles, given_each, given_list, given_lists, given_logic, given_membership, first_cell, later_cells, multi_of, truth_in, is_null}
use Rattle.esql_plan.specs.Functions.{rule_of}

-- what an expression gives on a row: a cell, and the failures of its nodes
pub record Valued : Type 0 where
  pub cell : List Value
  pub failures : List Failure

-- a cell without failures
abbrev pub silent : List Value → Valued
silent cell = record { cell = cell; failures = [] }

abbrev pub failures_at : NodeId → List Cause → List Failure
failures_at node causes = map (λ cause. record { node = node; cause = cause }) causes

-- a value behind the failures that came before it
abbrev pub behind : List Failure → Valued → Valued
behind failures valued = record { cell = valued.cell; failures = failures ++ valued.failures }

-- what a node gives itself, behind the failures of its parts from the left
abbrev pub behind_parts : NodeId → List Valued → Given → Valued
behind_parts node parts own = record { cell = own.cell; failures = flat_map (λ part. part.failures) parts ++ failures_at node own.causes }

abbrev pub cells_of : List Valued → List (List Value)
cells_of parts = map (λ part. part.cell) parts

-- a truth that is known and true
abbrev pub is_met : Option Bool → Bool
is_met None = false
is_met (Some truth) = truth

-- CASE: each condition in turn, where one of several values is a failure of the node and not met. The part behind the first
-- condition that is met is given as it is; where none is met, a last part without a condition, or null. What stands behind
-- is not evaluated.
abbrev pub case_of : NodeId → List Valued → Valued
case_of node [] = silent []
case_of node (otherwise ∷ []) = otherwise
case_of node (condition ∷ part ∷ rest) =
    behind (condition.failures ++ failures_at node (multi_of condition.cell)) (if is_met (truth_in condition.cell) then part else case_of node rest)

-- COALESCE: the first part that is not null, or null. What stands behind is not evaluated.
abbrev pub coalesce_of : List Valued → Valued
coalesce_of [] = silent []
coalesce_of (part ∷ rest) = if is_null part.cell then behind part.failures (coalesce_of rest) else part

-- what a rule gives at a node of the values of the parts
abbrev pub applied_by : Rule → NodeId → List Valued → Valued
applied_by (singles function) node parts = behind_parts node parts (given_singles function (cells_of parts))
applied_by (each function) node parts = behind_parts node parts (given_each function (first_cell (cells_of parts)))
applied_by (list_and_singles function) node parts = behind_parts node parts (given_list function (first_cell (cells_of parts)) (later_cells (cells_of parts)))
applied_by (lists function) node parts = behind_parts node parts (given_lists function (cells_of parts))
applied_by (tests function) node parts = behind_parts node parts (given_one (Boolean (function (first_cell (cells_of parts)))))
applied_by (logic function) node parts = behind_parts node parts (given_logic function (cells_of parts))
applied_by (membership function) node parts = behind_parts node parts (given_membership function (first_cell (cells_of parts)) (later_cells (cells_of parts)))
applied_by conditions node parts = case_of node parts
applied_by alternatives node parts = coalesce_of parts

-- what a function gives at a node of the values of its parts
abbrev pub applied : Function → NodeId → List Valued → Valued
applied function node parts = applied_by (rule_of function) node parts

-- the cell of each column number, null where there is none
abbrev pub NumberedRow : Type 0
NumberedRow = ℕ → List Value

abbrev pub value_of_form : TypedForm-F (NodeId → NumberedRow → Valued) (NumberedRow → Valued) → NodeId → NumberedRow → Valued
value_of_form (Constant cell) node row = silent cell
value_of_form (Column id) node row = silent (row id.0)
value_of_form (Apply function args pattern) node row = applied function node (map (λ (arg : NumberedRow → Valued). arg row) args)

-- the value of a typed expression on a row
abbrev pub value_of_typed : TypedExpr → NumberedRow → Valued
value_of_typed = fold-TypedExpr (NodeId → NumberedRow → Valued) (NumberedRow → Valued) value_of_form (λ expr. expr.form expr.node)
