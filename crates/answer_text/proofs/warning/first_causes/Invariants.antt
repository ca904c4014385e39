use Rattle.std.proofs.Common.{◌≡◌, map, take}
use Rattle.answer_text.specs.Warnings.{at_node}
use Rattle.answer_text.proofs.warning.first_causes.Given as goal

abbrev pub invariant-loop-failure : goal.invariant-loop-failure
invariant-loop-failure l = map (λ cause. cause.now) l.causes.items ≡ take 20 (at_node (take l.failure-index l.failures) l.node)
