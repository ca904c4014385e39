use Rattle.esql_commands.proofs.Completes.{completes}
use Rattle.esql_commands.proofs.laws.commands_can_end.Goals as goal

pub returns : goal.returns
returns c = completes
