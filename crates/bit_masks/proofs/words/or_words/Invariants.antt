use Rattle.std.proofs.Common.{◌≡◌, ℕ, ◌-◌, ◌<◌, ◌≤◌, length, slice_index}
use Rattle.std.specs.Int.Bits.{bit_or}
use Rattle.bit_masks.proofs.words.or_words.Given as goal

abbrev pub invariant-loop-left : goal.invariant-loop-left
invariant-loop-left l = record {
  same_length : length l.left ≡ length l.fn.left;
  within : l.i ≤ length l.fn.left;
  done : (k : ℕ) → k < l.i → slice_index l.left k ≡ bit_or (slice_index l.fn.left k) (slice_index l.right k);
  ahead : (k : ℕ) → l.i ≤ k → slice_index l.left k ≡ slice_index l.fn.left k;
}

abbrev pub decreases-loop-left : goal.decreases-loop-left
decreases-loop-left l = length l.left - l.i
