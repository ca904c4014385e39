use Rattle.esql_ast.proofs.Bared.{numbering_keeps_all}
use Rattle.esql_ast.proofs.laws.numbering_keeps_all.Goals as goal

pub returns : goal.returns
returns c = numbering_keeps_all
