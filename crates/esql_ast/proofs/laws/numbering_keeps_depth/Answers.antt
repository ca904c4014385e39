use Rattle.esql_ast.proofs.KeepsDepth.{keeps_depth}
use Rattle.esql_ast.proofs.laws.numbering_keeps_depth.Goals as goal

pub returns : goal.returns
returns c = keeps_depth
