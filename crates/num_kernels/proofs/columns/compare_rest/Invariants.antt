use Rattle.std.proofs.Common.{◌≡◌, ℕ, ◌<◌, ◌≤◌, ◌&&◌, length}
use Rattle.num_kernels.specs.Numbers.{compares}
use Rattle.num_folds.specs.Lanes.{at, set_at}
use Rattle.num_kernels.proofs.columns.compare_rest.Given as goal

abbrev pub invariant-loop-place : goal.invariant-loop-place
invariant-loop-place g l = record {
  same_length : length l.to ≡ length l.fn.to;
  untouched : (k : ℕ) → k < l.start → set_at l.to k ≡ set_at l.fn.to k;
  done : (k : ℕ) → l.start ≤ k → k < l.place → set_at l.to k ≡ (set_at l.valid k && compares g.row.OP (at (g.T.Operand.wholes l.left) k) (at (g.T.Operand.wholes l.right) k));
}
