use Rattle.std.proofs.Common.{ℕ, ◌+◌, ◌<◌, FitsSigned, w32}
use Rattle.num_folds.specs.Lanes.{at}
use Rattle.num_folds.proofs.int_lanes.fit.Given as goal

abbrev pub invariant-loop-k : goal.invariant-loop-k
invariant-loop-k g l = (k : ℕ) → k < l.k → FitsSigned w32 (at l.numbers (l.start + k))
