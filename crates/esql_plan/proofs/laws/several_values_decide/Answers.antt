use Rattle.esql_plan.proofs.Lawful.{several_first}
use Rattle.esql_plan.proofs.laws.several_values_decide.Goals as goal

pub returns : goal.returns
returns c = several_first
