use Rattle.function_rules.proofs.ListsDistinct.{distinct_push}
use Rattle.function_rules.proofs.lists.distinct_values_by_first_place.Goals as goal

pub returns : goal.returns
returns g c = λ same items item. distinct_push same items item
