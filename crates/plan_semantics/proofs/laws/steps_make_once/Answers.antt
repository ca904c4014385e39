use Rattle.plan_semantics.proofs.MadeOnce.{made_once}
use Rattle.plan_semantics.proofs.laws.steps_make_once.Goals as goal

pub returns : goal.returns
returns c = λ catalog bounds output source steps. made_once bounds output catalog source steps
