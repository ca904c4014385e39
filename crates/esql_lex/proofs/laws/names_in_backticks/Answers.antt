use Rattle.esql_lex.proofs.Writings.{names_in_backticks}
use Rattle.esql_lex.proofs.laws.names_in_backticks.Goals as goal

pub returns : goal.returns
returns c = names_in_backticks
