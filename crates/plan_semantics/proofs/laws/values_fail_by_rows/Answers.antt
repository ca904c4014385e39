use Rattle.plan_semantics.proofs.FailingSteps.{expr_by_rows}
use Rattle.plan_semantics.proofs.laws.values_fail_by_rows.Goals as goal

pub returns : goal.returns
returns c = λ expr rows orderly node. expr_by_rows node expr rows (orderly node)
