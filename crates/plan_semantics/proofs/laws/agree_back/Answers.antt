use Rattle.plan_semantics.proofs.Agreeing.{Agrees-back}
use Rattle.plan_semantics.proofs.laws.agree_back.Goals as goal

pub returns : goal.returns
returns c = Agrees-back
