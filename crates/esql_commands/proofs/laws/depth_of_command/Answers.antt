use Rattle.esql_commands.proofs.Depths.{says_depth}
use Rattle.esql_commands.proofs.laws.depth_of_command.Goals as goal

pub returns : goal.returns
returns c = λ begin w says d whole. says_depth whole
