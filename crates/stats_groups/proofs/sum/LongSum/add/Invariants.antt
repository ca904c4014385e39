use Rattle.std.proofs.Common.{◌≡◌, drop}
use Rattle.std.specs.Prelude.{fold}
use Rattle.stats_groups.specs.States.{with_value}
use Rattle.stats_groups.proofs.sum.LongSum.add.Given as goal

abbrev pub invariant-loop-value : goal.invariant-loop-value
invariant-loop-value l = fold with_value l.initial.self l.values ≡ fold with_value l.self (drop l.value-index l.values)
