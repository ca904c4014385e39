use Rattle.plan_semantics.proofs.Agreeing.{Agrees-itself}
use Rattle.plan_semantics.proofs.laws.each_agrees.Goals as goal

pub returns : goal.returns
returns c = Agrees-itself
