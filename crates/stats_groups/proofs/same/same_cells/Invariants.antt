use Rattle.std.proofs.Common.{◌≡◌, drop, length}
use Rattle.plan_semantics.specs.Groups.{same_list, same_value}
use Rattle.stats_groups.proofs.same.same_cells.Given as goal

abbrev pub invariant-loop-place : goal.invariant-loop-place
invariant-loop-place l = record {
  long : length l.these ≡ length l.those;
  same : same_list (same_list same_value) l.these l.those ≡ same_list (same_list same_value) (drop l.place l.these) (drop l.place l.those);
}
