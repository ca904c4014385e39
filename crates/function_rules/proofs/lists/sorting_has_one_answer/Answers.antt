use Rattle.function_rules.proofs.ListsSorted.{sorted_once}
use Rattle.function_rules.proofs.lists.sorting_has_one_answer.Goals as goal

pub returns : goal.returns
returns g c = λ order items sorted total exact moved up. sorted_once order total exact items sorted moved up
