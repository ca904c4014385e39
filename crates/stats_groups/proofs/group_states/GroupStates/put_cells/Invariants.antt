use Rattle.std.proofs.Common.{◌≡◌, ◌++◌, map, length}
use Rattle.std.specs.List.{flat_map}
use Rattle.std.specs.Vec.Iter.{into_iter_items, into_iter_len}
use Rattle.stats_groups.specs.Cells.{put_cells}
use Rattle.stats_groups.specs.States.{cell_of_running, failures_of_running}
use Rattle.stats_groups.proofs.group_states.GroupStates.put_cells.Given as goal

abbrev pub invariant-loop-running : goal.invariant-loop-running
invariant-loop-running l = record {
  counted : into_iter_len l.running-iterator ≡ length (into_iter_items l.running-iterator);
  row : put_cells l.row l.left (map cell_of_running (into_iter_items l.running-iterator)) ≡ put_cells l.initial.row l.columns (map cell_of_running l.fn.self);
  failures : l.failures ++ flat_map failures_of_running (into_iter_items l.running-iterator) ≡ l.initial.failures ++ flat_map failures_of_running l.fn.self;
}
