use Rattle.esql_lex.proofs.Spans.{tokens_are_parts}
use Rattle.esql_lex.proofs.laws.tokens_are_parts.Goals as goal

pub returns : goal.returns
returns c = tokens_are_parts
