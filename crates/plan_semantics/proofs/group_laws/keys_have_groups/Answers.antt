use Rattle.plan_semantics.proofs.Grouping.{key_has_group}
use Rattle.plan_semantics.proofs.group_laws.keys_have_groups.Goals as goal

pub returns : goal.returns
returns c = key_has_group
