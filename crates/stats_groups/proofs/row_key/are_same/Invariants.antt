use Rattle.std.proofs.Common.{◌≡◌, drop, length}
use Rattle.plan_semantics.specs.Groups.{same_list, same_value}
use Rattle.stats_groups.specs.Entries.{cells_of}
use Rattle.stats_groups.proofs.row_key.are_same.Given as goal

abbrev pub invariant-loop-place : goal.invariant-loop-place
invariant-loop-place l = record {
  long : length l.this.groups.now ≡ length l.that.groups.now;
  same : same_list (same_list same_value) (cells_of l.this.groups.now l.this.row.now) (cells_of l.that.groups.now l.that.row.now)
      ≡ same_list (same_list same_value) (cells_of (drop l.place l.this.groups.now) l.this.row.now) (cells_of (drop l.place l.that.groups.now) l.that.row.now);
}
