use Rattle.plan_semantics.proofs.StepKinds.{plan_shows_kinds}
use Rattle.plan_semantics.proofs.laws.plans_show_kinds.Goals as goal

pub returns : goal.returns
returns c = plan_shows_kinds
