use Rattle.std.proofs.Common.{length, subst, sym}
use Rattle.std.specs.Cmp.{then_total, nat_cmp_total}
use Rattle.std.specs.List.{range_with_len}
use Rattle.std.specs.List.Sorted.{IsSorted}
use Rattle.std.specs.Ordering.{nat_cmp, then_cmp}
use Rattle.function_rules.proofs.ListsSorted.{sorted_by_sorted}
use Rattle.page_ops.specs.Orders.{order_of_places}
use Rattle.page_ops.proofs.KeyOrders.{places_total}
use Rattle.page_ops.proofs.PlaceTies.{same_sorted}
use Rattle.page_ops.proofs.laws.ties_stand_by_place.Goals as goal

pub returns : goal.returns
returns c = λ keys rows.
    let order = then_cmp (order_of_places keys rows) nat_cmp in
    subst (IsSorted order) (sym (same_sorted (order_of_places keys rows) 0 (length rows)))
    (sorted_by_sorted order (then_total (places_total keys rows) nat_cmp_total) (range_with_len 0 (length rows)))
