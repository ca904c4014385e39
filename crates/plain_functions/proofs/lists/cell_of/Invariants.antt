use Rattle.std.proofs.Common.{◌≡◌}
use Rattle.plain_functions.proofs.lists.cell_of.Given as goal

abbrev pub invariant-loop-value : goal.invariant-loop-value
invariant-loop-value l = l.cell ≡ l.yielded
