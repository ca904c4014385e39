use Rattle.esql_plan.proofs.Lawful.{both_sides}
use Rattle.esql_plan.proofs.laws.and_evaluates_both_sides.Goals as goal

pub returns : goal.returns
returns c = both_sides
