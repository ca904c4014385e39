use Rattle.plan_semantics.proofs.Grouping.{one_key}
use Rattle.plan_semantics.proofs.group_laws.one_value_one_key.Goals as goal

pub returns : goal.returns
returns c = one_key
