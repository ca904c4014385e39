use Rattle.esql_ast.proofs.KeepsFit.{query_fits}
use Rattle.esql_ast.proofs.laws.numbering_keeps_fit.Goals as goal

pub returns : goal.returns
returns c = query_fits
