use Rattle.function_rules.proofs.ListsLeast.{least_of_least}
use Rattle.function_rules.proofs.lists.none_is_less.Goals as goal

pub returns : goal.returns
returns g c = λ order items least total is. least_of_least order total items least is
