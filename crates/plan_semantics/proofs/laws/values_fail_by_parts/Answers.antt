use Rattle.plan_semantics.proofs.FailingSteps.{expr_by_parts}
use Rattle.plan_semantics.proofs.laws.values_fail_by_parts.Goals as goal

pub returns : goal.returns
returns c = λ expr rows orderly node. expr_by_parts node expr rows (orderly node)
