use Rattle.std.proofs.Common.{◌≡◌, take}
use Rattle.stats_groups.specs.States.{running_before}
use Rattle.stats_groups.proofs.group_states.GroupStates.new.Given as goal

abbrev pub invariant-loop-aggregate : goal.invariant-loop-aggregate
invariant-loop-aggregate l = l.states.items ≡ running_before (take l.aggregate-index l.aggregates)
