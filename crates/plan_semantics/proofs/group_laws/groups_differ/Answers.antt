use Rattle.plan_semantics.proofs.Grouping.{groups_differ}
use Rattle.plan_semantics.proofs.group_laws.groups_differ.Goals as goal

pub returns : goal.returns
returns c = groups_differ
