use Rattle.esql_commands.proofs.Sound.{finished_says}
use Rattle.esql_commands.proofs.laws.what_ends_is_a_command.Goals as goal

pub returns : goal.returns
returns c = finished_says
