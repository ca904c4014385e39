use Rattle.esql_ast.proofs.UsesFirst.{mentioned_are_used}
use Rattle.esql_ast.proofs.laws.mentioned_are_used.Goals as goal

pub returns : goal.returns
returns c = mentioned_are_used
