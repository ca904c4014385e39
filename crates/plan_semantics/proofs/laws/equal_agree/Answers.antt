use Rattle.plan_semantics.proofs.Agreeing.{Agrees-same}
use Rattle.plan_semantics.proofs.laws.equal_agree.Goals as goal

pub returns : goal.returns
returns c = Agrees-same
