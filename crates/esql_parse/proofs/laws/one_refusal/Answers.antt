use Rattle.esql_parse.specs.Spells.{lexemes_of}
use Rattle.esql_parse.proofs.Refusals.{one_refusal}
use Rattle.esql_parse.proofs.laws.one_refusal.Goals as goal

pub returns : goal.returns
returns c = λ text tokens error other a b. one_refusal 100 200 (lexemes_of text tokens) error other a b
