use Rattle.std.proofs.Common.{◌≡◌, ◌++◌, take}
use Rattle.scalar_functions.proofs.application.add.Given as goal

abbrev pub invariant-loop-value : goal.invariant-loop-value
invariant-loop-value l = l.cell ≡ l.initial.cell ++ take l.value-index l.value-items
