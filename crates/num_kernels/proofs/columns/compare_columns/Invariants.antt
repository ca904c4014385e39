use Rattle.std.proofs.Common.{◌≡◌, ℕ, ◌-◌, ◌%◌, ◌<◌, ◌≤◌, ◌&&◌, length}
use Rattle.num_kernels.specs.Numbers.{compares}
use Rattle.num_folds.specs.Lanes.{at, set_at}
use Rattle.num_kernels.proofs.columns.compare_columns.Given as goal

abbrev pub invariant-loop-start : goal.invariant-loop-start
invariant-loop-start g l = record {
  same_length : length l.to ≡ length l.fn.to;
  within : l.start ≤ length l.left;
  aligned : l.start % g.row.N ≡ 0;
  done : (k : ℕ) → k < l.start → set_at l.to k ≡ (set_at l.valid k && compares g.row.OP (at (g.T.Operand.wholes l.left) k) (at (g.T.Operand.wholes l.right) k));
}

abbrev pub decreases-loop-start : goal.decreases-loop-start
decreases-loop-start g l = length l.left - l.start
