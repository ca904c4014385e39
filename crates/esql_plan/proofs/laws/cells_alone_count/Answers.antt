use Rattle.esql_plan.specs.Functions.{rule_of}
use Rattle.esql_plan.proofs.Lawful.{rule_cells}
use Rattle.esql_plan.proofs.laws.cells_alone_count.Goals as goal

pub returns : goal.returns
returns c function = rule_cells (rule_of function)
