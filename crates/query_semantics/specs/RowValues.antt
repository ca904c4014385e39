-- The value of an expression on a row of names.
use Rattle.std.specs.Prelude.{List, []}
use Rattle.std.specs.List.{flat_map}
use Rattle.esql_types.specs.declared.cause.Failure.{Failure}
use Rattle.esql_types.specs.declared.names.NodeId.{NodeId}
use Rattle.esql_ast.specs.declared.expr.Expr.{Expr}
use Rattle.esql_plan.specs.Values.{Valued}
use Rattle.plan_semantics.specs.Steps.{failures_of_condition}
use Rattle.row_semantics.specs.Rows.{Row}
use Rattle.row_semantics.specs.Meanings.{value_on}

-- the value of an expression on a row, outside the fields of STATS
abbrev pub value_in_row : Expr → Row → Valued
value_in_row expr row = value_on expr (record { row = row; calls = [] })

abbrev pub failures_of_expr : Expr → List Row → List Failure
failures_of_expr expr rows = flat_map (λ row. (value_in_row expr row).failures) rows

-- a condition of several values is a failure of the condition's own node
abbrev pub failures_of_rows : NodeId → Expr → List Row → List Failure
failures_of_rows node condition rows = flat_map (λ row. failures_of_condition node (value_in_row condition row)) rows
