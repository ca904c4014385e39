-- The order of rows by keys is total.
use Rattle.std.proofs.Common.{List, [], ◌∷◌}
use Rattle.std.specs.Cmp.{IsTotalOrder, then_total, on_total, nat_cmp_total}
use Rattle.esql_plan.specs.declared.step.PlanKey.{PlanKey}
use Rattle.esql_plan.specs.Values.{NumberedRow}
use Rattle.esql_scalar.specs.Rows.{row_of}
use Rattle.plan_semantics.specs.Orders.{sort_value, order_of_rows}
use Rattle.page_ops.proofs.KeyOrders.{values_total}
use Rattle.plan_rows.specs.Kept.{order_of_kept}

rows_total : (keys : List PlanKey) → IsTotalOrder (order_of_rows keys)
rows_total [] = on_total (λ (row : NumberedRow). 0) nat_cmp_total
rows_total (key ∷ keys) = then_total (on_total (λ (row : NumberedRow). sort_value key.descending (row key.id.0)) (values_total key)) (rows_total keys)

pub kept_total : (keys : List PlanKey) → IsTotalOrder (order_of_kept keys)
kept_total keys = on_total row_of (rows_total keys)
