use Rattle.std.proofs.Common.{◌≡◌, ◌++◌, map, take, drop}
use Rattle.std.specs.List.{flat_map}
use Rattle.esql_plan.specs.declared.typed.TypedExpr.{TypedExpr}
use Rattle.esql_plan.specs.Values.{value_of_typed, case_of, coalesce_of}
use Rattle.esql_scalar.specs.Rows.{row_of, values_of}
use Rattle.esql_scalar.specs.Turns.{case_at}
use Rattle.esql_scalar.proofs.expression.+evaluate.Given as goal

abbrev pub invariant-evaluate_all-loop-arg : goal.invariant-evaluate_all-loop-arg
invariant-evaluate_all-loop-arg l = record {
  cells : l.cells ≡ map (λ (arg : TypedExpr). (value_of_typed arg (row_of l.row)).cell) (take l.arg-index l.args);
  failures : l.failures ≡ l.initial.failures ++ flat_map (λ (arg : TypedExpr). (value_of_typed arg (row_of l.row)).failures) (take l.arg-index l.args);
}

abbrev pub invariant-case_of-loop-place : goal.invariant-case_of-loop-place
invariant-case_of-loop-place l = record {
  cell : (case_of l.node (values_of l.args (row_of l.row))).cell ≡ (case_at l.turn l.node (values_of (drop l.place l.args) (row_of l.row))).cell;
  failures : l.initial.failures ++ (case_of l.node (values_of l.args (row_of l.row))).failures
      ≡ l.failures ++ (case_at l.turn l.node (values_of (drop l.place l.args) (row_of l.row))).failures;
}

abbrev pub invariant-coalesce_of-loop-part : goal.invariant-coalesce_of-loop-part
invariant-coalesce_of-loop-part l = record {
  cell : (coalesce_of (values_of l.args (row_of l.row))).cell ≡ (coalesce_of (values_of (drop l.part-index l.args) (row_of l.row))).cell;
  failures : l.initial.failures ++ (coalesce_of (values_of l.args (row_of l.row))).failures
      ≡ l.failures ++ (coalesce_of (values_of (drop l.part-index l.args) (row_of l.row))).failures;
}
