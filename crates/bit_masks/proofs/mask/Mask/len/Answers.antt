use Rattle.std.proofs.Common.{sym}
use Rattle.bit_masks.proofs.Places.{length_of}
use Rattle.bit_masks.proofs.mask.Mask.len.Goals as goal

pub returns : goal.returns
returns c = sym (length_of c.self.inside.words.items c.self.inside.len c.args.self.now c.self.view_is)
