use Rattle.plan_semantics.proofs.Keeps.{step_kept}
use Rattle.plan_semantics.proofs.laws.steps_keep_columns.Goals as goal

pub returns : goal.returns
returns c = λ held bounds made step stands row. step_kept made row held bounds step stands
