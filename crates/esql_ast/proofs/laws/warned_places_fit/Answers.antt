use Rattle.esql_ast.proofs.WarnedFit.{warned_nodes_fit}
use Rattle.esql_ast.proofs.laws.warned_places_fit.Goals as goal

pub returns : goal.returns
returns c = warned_nodes_fit
