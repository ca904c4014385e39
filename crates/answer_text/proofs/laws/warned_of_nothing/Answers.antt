use Rattle.answer_text.proofs.Causes.{warned-no_failures}
use Rattle.answer_text.proofs.laws.warned_of_nothing.Goals as goal

pub returns : goal.returns
returns c = warned-no_failures
