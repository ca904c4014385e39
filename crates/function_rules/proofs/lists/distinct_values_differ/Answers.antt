use Rattle.function_rules.proofs.ListsDistinct.{distinct_once}
use Rattle.function_rules.proofs.lists.distinct_values_differ.Goals as goal

pub returns : goal.returns
returns g c = λ same items. distinct_once same items
