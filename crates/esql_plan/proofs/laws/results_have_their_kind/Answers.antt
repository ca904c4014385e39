use Rattle.esql_plan.proofs.KindsGiven.{always_kind}
use Rattle.esql_plan.proofs.laws.results_have_their_kind.Goals as goal

pub returns : goal.returns
returns c = always_kind
