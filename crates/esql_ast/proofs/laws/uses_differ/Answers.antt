use Rattle.esql_ast.proofs.UsesFirst.{uses_differ}
use Rattle.esql_ast.proofs.laws.uses_differ.Goals as goal

pub returns : goal.returns
returns c = uses_differ
