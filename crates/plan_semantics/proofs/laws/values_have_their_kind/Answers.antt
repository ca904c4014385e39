use Rattle.plan_semantics.proofs.ValueKinds.{value_has_kind}
use Rattle.plan_semantics.proofs.laws.values_have_their_kind.Goals as goal

pub returns : goal.returns
returns c = λ whole free expr row fits rows. value_has_kind whole free row expr fits rows
