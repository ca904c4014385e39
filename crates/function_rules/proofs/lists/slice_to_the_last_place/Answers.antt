use Rattle.function_rules.proofs.ListsSlice.{slice_whole}
use Rattle.function_rules.proofs.lists.slice_to_the_last_place.Goals as goal

pub returns : goal.returns
returns g c = λ items. slice_whole items
