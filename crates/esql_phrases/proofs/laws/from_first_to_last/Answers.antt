use Rattle.esql_phrases.proofs.Spans.{spans}
use Rattle.esql_phrases.proofs.laws.from_first_to_last.Goals as goal

pub returns : goal.returns
returns c line lexemes part phrase = spans phrase
