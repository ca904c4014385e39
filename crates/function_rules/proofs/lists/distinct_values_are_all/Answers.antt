use Rattle.function_rules.proofs.ListsDistinct.{distinct_keeps}
use Rattle.function_rules.proofs.lists.distinct_values_are_all.Goals as goal

pub returns : goal.returns
returns g c = λ same items sought laws. distinct_keeps same laws items sought
