use Rattle.function_rules.proofs.ListsSlice.{slice_part}
use Rattle.function_rules.proofs.lists.slice_is_a_part.Goals as goal

pub returns : goal.returns
returns g c = λ items start end. slice_part items start end
