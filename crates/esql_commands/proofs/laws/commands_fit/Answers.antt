use Rattle.esql_commands.proofs.Fits.{says_fits}
use Rattle.esql_commands.proofs.laws.commands_fit.Goals as goal

pub returns : goal.returns
returns c = λ text begin w says d whole stands. says_fits whole stands
