use Rattle.std.proofs.Common.{◌≡◌, take, count_ones}
use Rattle.std.specs.List.{sum_by}
use Rattle.bit_masks.proofs.words.ones.Given as goal

abbrev pub invariant-loop-word : goal.invariant-loop-word
invariant-loop-word l = l.total ≡ sum_by count_ones (take l.word-index l.words)
