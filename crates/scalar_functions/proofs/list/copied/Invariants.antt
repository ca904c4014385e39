use Rattle.std.proofs.Common.{◌≡◌, take}
use Rattle.scalar_functions.proofs.list.copied.Given as goal

abbrev pub invariant-loop-value : goal.invariant-loop-value
invariant-loop-value l = l.cell ≡ take l.value-index l.values
