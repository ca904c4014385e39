use Rattle.esql_ast.proofs.NumberedQuery.{in_order}
use Rattle.esql_ast.proofs.laws.numbers_in_order.Goals as goal

pub returns : goal.returns
returns c = in_order
