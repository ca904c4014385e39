use Rattle.plan_semantics.specs.Tables.{source_rows}
use Rattle.plan_semantics.proofs.FailingSteps.{steps_by_parts}
use Rattle.plan_semantics.proofs.laws.plans_fail_by_parts.Goals as goal

pub returns : goal.returns
returns c = λ plan held orderly node. steps_by_parts node held plan.steps (source_rows held.tables plan.source) (orderly node)
