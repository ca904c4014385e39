use Rattle.std.proofs.Common.{◌≡◌, ◌++◌, length, take, drop}
use Rattle.stats_groups.specs.Entries.{inputs_of}
use Rattle.stats_groups.specs.States.{running_after}
use Rattle.stats_groups.proofs.group_states.GroupStates.add.Given as goal

abbrev pub invariant-loop-place : goal.invariant-loop-place
invariant-loop-place l = record {
  long : length l.self-inside.states.items ≡ l.place-end;
  states : take l.place l.self-inside.states.items ++ running_after l.place (drop l.place l.self-inside.states.items) (inputs_of l.aggregates l.row) ≡ running_after 0 l.fn.self (inputs_of l.aggregates l.row);
}
