use Rattle.std.proofs.Common.{◌≡◌, ◌-◌, ◌%◌, ◌≤◌, length, map, option_map, not, eqb}
use Rattle.num_folds.specs.Totals.{AsGood, IsBest}
use Rattle.num_folds.proofs.extremes.best.Given as goal

abbrev pub invariant-loop-start : goal.invariant-loop-start
invariant-loop-start g l = record {
  within : l.start ≤ length l.values;
  aligned : l.start % g.row.N ≡ 0;
  best_so_far : IsBest (AsGood (not (eqb g.row.SOUGHT 0))) (map g.T.Number.whole l.values) l.valid l.keep l.start (option_map g.T.Number.whole l.best);
}

abbrev pub decreases-loop-start : goal.decreases-loop-start
decreases-loop-start g l = length l.values - l.start
