use Rattle.function_rules.proofs.ListsSlice.{slice_whole_back}
use Rattle.function_rules.proofs.lists.slice_to_the_end.Goals as goal

pub returns : goal.returns
returns g c = λ items. slice_whole_back items
