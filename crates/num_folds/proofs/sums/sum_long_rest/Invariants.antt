use Rattle.num_folds.specs.Totals.{IsTotal, kept_at}
use Rattle.num_folds.proofs.sums.sum_long_rest.Given as goal

abbrev pub invariant-loop-place : goal.invariant-loop-place
invariant-loop-place l = IsTotal 63 (kept_at l.values l.valid l.keep) l.place l.sum
