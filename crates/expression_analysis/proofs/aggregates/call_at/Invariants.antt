use Rattle.std.proofs.Common.{◌≡◌, drop}
use Rattle.row_semantics.specs.Typed.{call_at}
use Rattle.expression_analysis.proofs.aggregates.call_at.Given as goal

abbrev pub invariant-loop-call : goal.invariant-loop-call
invariant-loop-call l = call_at (drop l.call-index l.calls) l.node ≡ call_at l.calls l.node
