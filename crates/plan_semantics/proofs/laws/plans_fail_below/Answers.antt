use Rattle.plan_semantics.specs.Tables.{source_rows}
use Rattle.plan_semantics.specs.WellFormed.{bounds_of, source_made}
use Rattle.plan_semantics.proofs.Below.{failures_below}
use Rattle.plan_semantics.proofs.laws.plans_fail_below.Goals as goal

pub returns : goal.returns
returns c = λ catalog whole free cutters plan well held.
    failures_below held (bounds_of catalog whole free cutters plan) plan.output (source_made plan.source) plan.steps well.steps (source_rows held.tables plan.source)
