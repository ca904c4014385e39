use Rattle.plan_semantics.proofs.Agreeing.{Agrees-through}
use Rattle.plan_semantics.proofs.laws.agree_through.Goals as goal

pub returns : goal.returns
returns c = Agrees-through
