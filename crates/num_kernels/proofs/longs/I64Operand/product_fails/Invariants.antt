use Rattle.std.proofs.Common.{◌≡◌, ℕ, ◌+◌, ◌<◌, ◌≤◌, eqb, w64}
use Rattle.std.specs.Int.{bit_at}
use Rattle.num_kernels.specs.Numbers.{fails, mul}
use Rattle.num_folds.specs.Lanes.{at}
use Rattle.num_kernels.proofs.longs.I64Operand.product_fails.Given as goal

abbrev pub invariant-loop-k : goal.invariant-loop-k
invariant-loop-k g l = record {
  done : (j : ℕ) → j < l.k → eqb (bit_at l.fails j) 1 ≡ fails w64 mul (at l.left (l.start + j)) (at l.right (l.start + j));
  ahead : (j : ℕ) → l.k ≤ j → bit_at l.fails j ≡ 0;
}
