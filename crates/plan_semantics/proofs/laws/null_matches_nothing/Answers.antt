use Rattle.plan_semantics.proofs.NullGiven.{null_matches}
use Rattle.plan_semantics.proofs.laws.null_matches_nothing.Goals as goal

pub returns : goal.returns
returns c = null_matches
