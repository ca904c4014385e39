use Rattle.answer_text.proofs.SameCause.{cause_eq-Decides}
use Rattle.answer_text.proofs.laws.same_cause.Goals as goal

pub returns : goal.returns
returns c = cause_eq-Decides
