use Rattle.function_rules.proofs.ListsSorted.{sorted_by_sorted}
use Rattle.function_rules.proofs.lists.sorting_puts_in_order.Goals as goal

pub returns : goal.returns
returns g c = λ order items total. sorted_by_sorted order total items
