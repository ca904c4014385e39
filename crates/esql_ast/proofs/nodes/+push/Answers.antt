use Rattle.std.proofs.Common.{arith}
use Rattle.std.proofs.lemmas.Grind.{common_steps}
use Rattle.esql_ast.proofs.Folds.{call_nodes, binary_nodes, within_nodes}
use Rattle.esql_ast.proofs.nodes.+push.Goals as goal

pub push_form-returns-in-Call : goal.push_form-returns-in-Call
push_form-returns-in-Call t c = grind (arith, common_steps, call_nodes)

pub push_form-returns-in_ok-push_expr-in-Binary : goal.push_form-returns-in_ok-push_expr-in-Binary
push_form-returns-in_ok-push_expr-in-Binary t c = grind (arith, common_steps, binary_nodes)

pub push_form-returns-in_ok-push_expr-in-Within : goal.push_form-returns-in_ok-push_expr-in-Within
push_form-returns-in_ok-push_expr-in-Within t c = grind (arith, common_steps, within_nodes)
