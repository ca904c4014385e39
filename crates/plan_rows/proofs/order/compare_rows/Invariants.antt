use Rattle.std.proofs.Common.{◌≡◌, drop}
use Rattle.esql_scalar.specs.Rows.{row_of}
use Rattle.plan_semantics.specs.Orders.{order_of_rows}
use Rattle.plan_rows.proofs.order.compare_rows.Given as goal

abbrev pub invariant-loop-key : goal.invariant-loop-key
invariant-loop-key l = order_of_rows (drop l.key-index l.keys) (row_of l.left) (row_of l.right) ≡ order_of_rows l.keys (row_of l.left) (row_of l.right)
