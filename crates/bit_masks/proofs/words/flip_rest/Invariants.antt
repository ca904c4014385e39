use Rattle.std.proofs.Common.{◌≡◌, ℕ, ◌<◌, ◌≤◌, length, slice_index}
use Rattle.std.specs.Int.{bit_not}
use mir.Syntax.{w64}
use Rattle.bit_masks.proofs.words.flip_rest.Given as goal

abbrev pub invariant-loop-i : goal.invariant-loop-i
invariant-loop-i l = record {
  same_length : length l.words ≡ length l.fn.words;
  untouched : (k : ℕ) → k < l.start → slice_index l.words k ≡ slice_index l.fn.words k;
  done : (k : ℕ) → l.start ≤ k → k < l.i → slice_index l.words k ≡ bit_not w64 (slice_index l.fn.words k);
  ahead : (k : ℕ) → l.i ≤ k → slice_index l.words k ≡ slice_index l.fn.words k;
}
