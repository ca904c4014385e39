use Rattle.std.proofs.Common.{◌≡◌, take}
use Rattle.expression_analysis.proofs.constants.cell_of.Given as goal

abbrev pub invariant-loop-value : goal.invariant-loop-value
invariant-loop-value l = l.cell ≡ take l.value-index l.values
