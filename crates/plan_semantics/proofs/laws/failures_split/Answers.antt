use Rattle.plan_semantics.proofs.Splits.{failures_after-append}
use Rattle.plan_semantics.proofs.laws.failures_split.Goals as goal

pub returns : goal.returns
returns c = failures_after-append
