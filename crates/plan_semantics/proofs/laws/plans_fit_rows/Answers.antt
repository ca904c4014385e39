use Rattle.plan_semantics.proofs.StepKinds.{plan_fits_rows}
use Rattle.plan_semantics.proofs.laws.plans_fit_rows.Goals as goal

pub returns : goal.returns
returns c = plan_fits_rows
