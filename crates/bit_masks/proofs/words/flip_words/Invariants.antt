use Rattle.std.proofs.Common.{◌≡◌, ℕ, ◌-◌, ◌<◌, ◌≤◌, length, slice_index}
use Rattle.std.specs.Int.{bit_not}
use mir.Syntax.{w64}
use Rattle.bit_masks.proofs.words.flip_words.Given as goal

abbrev pub invariant-loop-words : goal.invariant-loop-words
invariant-loop-words l = record {
  same_length : length l.words ≡ length l.fn.words;
  within : l.i ≤ length l.fn.words;
  done : (k : ℕ) → k < l.i → slice_index l.words k ≡ bit_not w64 (slice_index l.fn.words k);
  ahead : (k : ℕ) → l.i ≤ k → slice_index l.words k ≡ slice_index l.fn.words k;
}

abbrev pub decreases-loop-words : goal.decreases-loop-words
decreases-loop-words l = length l.words - l.i
