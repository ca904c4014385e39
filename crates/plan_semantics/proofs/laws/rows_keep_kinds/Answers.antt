use Rattle.plan_semantics.proofs.StepKinds.{steps_kinds}
use Rattle.plan_semantics.proofs.laws.rows_keep_kinds.Goals as goal

pub returns : goal.returns
returns c = steps_kinds
