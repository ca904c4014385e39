use Rattle.plan_semantics.proofs.NullGiven.{null_is_cut}
use Rattle.plan_semantics.proofs.laws.null_is_cut_to_null.Goals as goal

pub returns : goal.returns
returns c = null_is_cut
