use Rattle.esql_lex.proofs.OneDivision.{not_both}
use Rattle.esql_lex.proofs.laws.not_both.Goals as goal

pub returns : goal.returns
returns c = not_both
