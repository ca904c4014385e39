use Rattle.std.proofs.Common.{length}
use Rattle.std.specs.List.{range_with_len}
use Rattle.function_rules.proofs.ListsSorted.{sorted_by_permutes}
use Rattle.page_ops.specs.Orders.{order_of_places}
use Rattle.page_ops.proofs.laws.each_place_once.Goals as goal

pub returns : goal.returns
returns c = λ keys rows. sorted_by_permutes (order_of_places keys rows) (range_with_len 0 (length rows))
