use Rattle.esql_lex.proofs.OneDivision.{one_list}
use Rattle.esql_lex.proofs.laws.one_list.Goals as goal

pub returns : goal.returns
returns c = one_list
