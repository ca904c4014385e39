use Rattle.std.proofs.Common.{◌≡◌, drop}
use Rattle.stats_groups.specs.States.{with_values}
use Rattle.stats_groups.proofs.distinct.DistinctValues.add.Given as goal

abbrev pub invariant-loop-value : goal.invariant-loop-value
invariant-loop-value l = with_values l.fn.self l.values ≡ with_values l.self-inside.values.value.keys (drop l.value-index l.values)
