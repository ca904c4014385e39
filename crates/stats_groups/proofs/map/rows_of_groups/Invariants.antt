use Rattle.std.proofs.Common.{◌≡◌, [], ◌++◌, map}
use Rattle.std.specs.List.{flat_map}
use Rattle.stats_groups.specs.Cells.{put_cells}
use Rattle.stats_groups.specs.Maps.{row_of_group, failures_of_group}
use Rattle.stats_groups.proofs.map.rows_of_groups.Given as goal

abbrev pub invariant-loop-key : goal.invariant-loop-key
invariant-loop-key l = record {
  rows : l.rows ++ map (λ group. put_cells [] l.columns (row_of_group group)) l.key-iterator ≡ map (λ group. put_cells [] l.columns (row_of_group group)) l.fn.groups.entries;
  failures : l.failures ++ flat_map failures_of_group l.key-iterator ≡ l.initial.failures ++ flat_map failures_of_group l.fn.groups.entries;
}
