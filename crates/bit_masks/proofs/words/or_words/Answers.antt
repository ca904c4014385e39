use Rattle.std.proofs.Common.{◌∙◌, arith, bit_or}
use Rattle.std.proofs.lemmas.Simd.{length-put_chunk}
use Rattle.bit_masks.proofs.Stored.{zip_done, zip_ahead}
use Rattle.bit_masks.proofs.words.or_words.Goals as goal

pub loop-left-preserved : goal.loop-left-preserved
loop-left-preserved c =
    record {
      same_length = length-put_chunk c.loop-left.i c.loop-left.left _ ∙ c.loop-left.invariant.same_length;
      within = omega arith;
      done = zip_done bit_or c.loop-left.left c.args.right.now c.args.left.now c.loop-left.i 4 c.loop-left.invariant.same_length c.requires (omega arith) c.loop-left.invariant.done c.loop-left.invariant.ahead;
      ahead = zip_ahead bit_or c.loop-left.left c.args.right.now c.args.left.now c.loop-left.i 4 c.loop-left.invariant.same_length c.requires (omega arith) c.loop-left.invariant.done c.loop-left.invariant.ahead;
    }
