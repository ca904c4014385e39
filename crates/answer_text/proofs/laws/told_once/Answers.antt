use Rattle.answer_text.proofs.Causes.{distinct-IsDistinct}
use Rattle.answer_text.proofs.laws.told_once.Goals as goal

pub returns : goal.returns
returns c = distinct-IsDistinct
