use Rattle.std.proofs.Common.{All}
use Rattle.esql_types.specs.Spans.{SpanFits}
use Rattle.answer_text.proofs.tests.nodes_at.Given as goal

abbrev pub invariant-loop-from : goal.invariant-loop-from
invariant-loop-from l = All (λ n. SpanFits l.text n.span) l.nodes
