use Rattle.esql_lex.proofs.Writings.{texts_in_quotes}
use Rattle.esql_lex.proofs.laws.texts_in_quotes.Goals as goal

pub returns : goal.returns
returns c = texts_in_quotes
