use Rattle.esql_plan.proofs.Lawful.{single_values}
use Rattle.esql_plan.proofs.laws.single_arguments.Goals as goal

pub returns : goal.returns
returns c = single_values
