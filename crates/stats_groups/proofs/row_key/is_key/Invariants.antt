use Rattle.std.proofs.Common.{◌≡◌, drop, length}
use Rattle.plan_semantics.specs.Groups.{same_list, same_value}
use Rattle.stats_groups.specs.Entries.{cells_of}
use Rattle.stats_groups.proofs.row_key.is_key.Given as goal

abbrev pub invariant-loop-place : goal.invariant-loop-place
invariant-loop-place l = record {
  long : length l.key.groups.now ≡ length l.cells;
  same : same_list (same_list same_value) (cells_of l.key.groups.now l.key.row.now) l.cells
      ≡ same_list (same_list same_value) (cells_of (drop l.place l.key.groups.now) l.key.row.now) (drop l.place l.cells);
}
