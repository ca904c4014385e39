use Rattle.esql_expr.proofs.Whole.{one_phrase}
use Rattle.esql_expr.proofs.laws.one_expression.Goals as goal

pub returns : goal.returns
returns c line lexemes part other first second = one_phrase first second
