use Rattle.plan_semantics.proofs.Splits.{rows_after-append}
use Rattle.plan_semantics.proofs.laws.rows_split.Goals as goal

pub returns : goal.returns
returns c = rows_after-append
