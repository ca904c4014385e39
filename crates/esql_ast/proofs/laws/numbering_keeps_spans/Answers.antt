use Rattle.esql_ast.proofs.NumberedQuery.{keeps_spans}
use Rattle.esql_ast.proofs.laws.numbering_keeps_spans.Goals as goal

pub returns : goal.returns
returns c = keeps_spans
