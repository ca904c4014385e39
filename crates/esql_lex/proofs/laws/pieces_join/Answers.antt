use Rattle.esql_lex.proofs.Spans.{pieces_join}
use Rattle.esql_lex.proofs.laws.pieces_join.Goals as goal

pub returns : goal.returns
returns c = pieces_join
