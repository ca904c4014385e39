use Rattle.esql_commands.proofs.Commands.{finishes}
use Rattle.esql_commands.proofs.laws.commands_are_read.Goals as goal

pub returns : goal.returns
returns c = finishes
