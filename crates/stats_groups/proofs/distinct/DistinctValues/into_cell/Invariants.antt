use Rattle.std.proofs.Common.{◌≡◌, ◌++◌}
use Rattle.stats_groups.proofs.distinct.DistinctValues.into_cell.Given as goal

abbrev pub invariant-loop-value : goal.invariant-loop-value
invariant-loop-value l = l.cell ++ l.value-iterator ≡ l.fn.self
