use Rattle.esql_plan.proofs.Lawful.{case_unmet}
use Rattle.esql_plan.proofs.laws.case_passes_the_false.Goals as goal

pub returns : goal.returns
returns c = case_unmet
