use Rattle.std.proofs.Common.{◌≡◌, ◌++◌, take}
use Rattle.std.specs.List.{flat_map}
use Rattle.esql_ast.specs.Nodes.{nodes_of_expr}
use Rattle.esql_ast.proofs.nodes.+push.Given as goal

abbrev pub invariant-push_exprs-loop-expr : goal.invariant-push_exprs-loop-expr
invariant-push_exprs-loop-expr l = l.nodes ≡ l.initial.nodes ++ flat_map nodes_of_expr (take l.expr-index l.expr-items)
