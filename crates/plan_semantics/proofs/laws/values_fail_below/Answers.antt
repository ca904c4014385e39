use Rattle.plan_semantics.proofs.Below.{value_below}
use Rattle.plan_semantics.proofs.laws.values_fail_below.Goals as goal

pub returns : goal.returns
returns c = value_below
