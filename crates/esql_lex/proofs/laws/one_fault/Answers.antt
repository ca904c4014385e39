use Rattle.esql_lex.proofs.OneDivision.{one_fault}
use Rattle.esql_lex.proofs.laws.one_fault.Goals as goal

pub returns : goal.returns
returns c = one_fault
