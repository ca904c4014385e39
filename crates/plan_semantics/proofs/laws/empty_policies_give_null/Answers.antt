use Rattle.plan_semantics.proofs.NullGiven.{empty_gives_null}
use Rattle.plan_semantics.proofs.laws.empty_policies_give_null.Goals as goal

pub returns : goal.returns
returns c = empty_gives_null
