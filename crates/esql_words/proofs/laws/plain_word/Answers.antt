use Rattle.esql_words.proofs.Plain.{options_of-plain}
use Rattle.esql_words.proofs.laws.plain_word.Goals as goal

pub returns : goal.returns
returns c = options_of-plain
