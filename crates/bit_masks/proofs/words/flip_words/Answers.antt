use Rattle.std.proofs.Common.{◌∙◌, arith}
use Rattle.std.proofs.lemmas.Simd.{length-put_chunk}
use Rattle.std.specs.Int.{bit_not}
use mir.Syntax.{w64}
use Rattle.bit_masks.proofs.Stored.{map_done, map_ahead}
use Rattle.bit_masks.proofs.words.flip_words.Goals as goal

pub loop-words-preserved : goal.loop-words-preserved
loop-words-preserved c =
    record {
      same_length = length-put_chunk c.loop-words.i c.loop-words.words _ ∙ c.loop-words.invariant.same_length;
      within = omega arith;
      done = map_done (bit_not w64) c.loop-words.words c.args.words.now c.loop-words.i 4 c.loop-words.invariant.same_length (omega arith) c.loop-words.invariant.done c.loop-words.invariant.ahead;
      ahead = map_ahead (bit_not w64) c.loop-words.words c.args.words.now c.loop-words.i 4 c.loop-words.invariant.same_length (omega arith) c.loop-words.invariant.done c.loop-words.invariant.ahead;
    }
