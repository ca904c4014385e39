use Rattle.esql_ast.proofs.UsesFirst.{uses_are_first}
use Rattle.esql_ast.proofs.laws.uses_are_first.Goals as goal

pub returns : goal.returns
returns c = uses_are_first
