use Rattle.std.proofs.Common.{◌≡◌, ℕ, ◌<◌, ◌≤◌, ◌&&◌, length}
use Rattle.num_kernels.specs.Numbers.{fails, result_at}
use Rattle.num_folds.specs.Lanes.{at, set_at}
use Rattle.num_kernels.proofs.columns.arith_rest.Given as goal

abbrev pub invariant-loop-place : goal.invariant-loop-place
invariant-loop-place g l = record {
  same_length : length l.to ≡ length l.fn.to;
  as_many : length l.failed ≡ length l.fn.failed;
  untouched : (k : ℕ) → k < l.start → at (g.T.Operand.wholes l.to) k ≡ at (g.T.Operand.wholes l.fn.to) k;
  failed_untouched : (k : ℕ) → k < l.start → set_at l.failed k ≡ set_at l.fn.failed k;
  done : (k : ℕ) → l.start ≤ k → k < l.place → at (g.T.Operand.wholes l.to) k ≡ result_at g.T.Operand.width g.row.OP (set_at l.valid k) (at (g.T.Operand.wholes l.left) k) (at (g.T.Operand.wholes l.right) k);
  failed_done : (k : ℕ) → l.start ≤ k → k < l.place → set_at l.failed k ≡ (set_at l.valid k && fails g.T.Operand.width g.row.OP (at (g.T.Operand.wholes l.left) k) (at (g.T.Operand.wholes l.right) k));
}
