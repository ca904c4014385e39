use Rattle.function_rules.proofs.ListsSorted.{sorted_by_permutes}
use Rattle.function_rules.proofs.lists.sorting_keeps_the_values.Goals as goal

pub returns : goal.returns
returns g c = λ order items. sorted_by_permutes order items
