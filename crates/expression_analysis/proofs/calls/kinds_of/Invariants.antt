use Rattle.std.proofs.Common.{◌≡◌, take}
use Rattle.expression_analysis.specs.Steps.{kinds_in}
use Rattle.expression_analysis.proofs.calls.kinds_of.Given as goal

abbrev pub invariant-loop-arg : goal.invariant-loop-arg
invariant-loop-arg l = l.kinds ≡ kinds_in (take l.arg-index l.args)
