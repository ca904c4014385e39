use Rattle.esql_plan.proofs.Lawful.{null_first}
use Rattle.esql_plan.proofs.laws.null_decides.Goals as goal

pub returns : goal.returns
returns c = null_first
