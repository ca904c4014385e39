use Rattle.esql_plan.proofs.Lawful.{case_met}
use Rattle.esql_plan.proofs.laws.case_takes_the_first_true.Goals as goal

pub returns : goal.returns
returns c = case_met
