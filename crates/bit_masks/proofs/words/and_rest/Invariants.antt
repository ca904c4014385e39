use Rattle.std.proofs.Common.{◌≡◌, ℕ, ◌<◌, ◌≤◌, length, slice_index}
use Rattle.std.specs.Int.Bits.{bit_and}
use Rattle.bit_masks.proofs.words.and_rest.Given as goal

abbrev pub invariant-loop-i : goal.invariant-loop-i
invariant-loop-i l = record {
  same_length : length l.left ≡ length l.fn.left;
  untouched : (k : ℕ) → k < l.start → slice_index l.left k ≡ slice_index l.fn.left k;
  done : (k : ℕ) → l.start ≤ k → k < l.i → slice_index l.left k ≡ bit_and (slice_index l.fn.left k) (slice_index l.right k);
  ahead : (k : ℕ) → l.i ≤ k → slice_index l.left k ≡ slice_index l.fn.left k;
}
