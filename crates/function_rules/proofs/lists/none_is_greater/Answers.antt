use Rattle.function_rules.proofs.ListsLeast.{greatest_of_greatest}
use Rattle.function_rules.proofs.lists.none_is_greater.Goals as goal

pub returns : goal.returns
returns g c = λ order items greatest total is. greatest_of_greatest order total items greatest is
