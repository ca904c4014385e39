use Rattle.esql_phrases.proofs.Fits.{phrase_fits}
use Rattle.esql_phrases.proofs.laws.spans_fit.Goals as goal

pub returns : goal.returns
returns c text line lexemes part phrase stands = phrase_fits phrase stands
