use Rattle.std.proofs.Common.{◌≡◌, ◌++◌, take}
use Rattle.plain_functions.proofs.lists.push_copies.Given as goal

abbrev pub invariant-loop-value : goal.invariant-loop-value
invariant-loop-value l = l.cell ≡ l.initial.cell ++ take l.value-index l.values
