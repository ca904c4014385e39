use Rattle.std.proofs.Common.{◌≡◌, ℕ, ◌^◌, ◌<◌, length, slice_index}
use Rattle.num_folds.proofs.int_lanes.marks.Given as goal

abbrev pub invariant-loop-k : goal.invariant-loop-k
invariant-loop-k g l = record {
  long : length l.places ≡ g.row.N;
  each : (k : ℕ) → k < l.k → slice_index l.places k ≡ 2 ^ k;
}
