use Rattle.std.proofs.Common.{◌≡◌, ◌-◌, ◌%◌, ◌≤◌, length}
use Rattle.num_folds.specs.Totals.{IsTotal, kept_at}
use Rattle.num_folds.proofs.sums.sum_longs.Given as goal

abbrev pub invariant-loop-start : goal.invariant-loop-start
invariant-loop-start g l = record {
  within : l.start ≤ length l.values;
  aligned : l.start % g.row.N ≡ 0;
  summed : IsTotal 63 (kept_at l.values l.valid l.keep) l.start l.sum;
}

abbrev pub decreases-loop-start : goal.decreases-loop-start
decreases-loop-start g l = length l.values - l.start
