use Rattle.std.proofs.Common.{◌≡◌, [], drop, slice_index_or}
use Rattle.page_ops.specs.Orders.{order_from, order_of_places}
use Rattle.page_ops.proofs.places.compare_places.Given as goal

abbrev pub invariant-loop-place : goal.invariant-loop-place
invariant-loop-place l = order_from l.place (drop l.place l.keys) (slice_index_or l.rows l.left []) (slice_index_or l.rows l.right []) ≡ order_of_places l.keys l.rows l.left l.right
