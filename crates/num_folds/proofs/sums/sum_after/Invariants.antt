use Rattle.std.proofs.Common.{◌+◌}
use Rattle.num_folds.specs.Totals.{IsTotal, kept_at}
use Rattle.num_folds.proofs.sums.sum_after.Given as goal

abbrev pub invariant-loop-k : goal.invariant-loop-k
invariant-loop-k g l = IsTotal 63 (kept_at l.values l.valid l.keep) (l.start + l.k) l.sum
