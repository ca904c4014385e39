use Rattle.plain_functions.specs.ValueOrder.{same_decides}
use Rattle.plain_functions.proofs.lists.same_values_are_equal.Goals as goal

pub returns : goal.returns
returns c = same_decides
