use Rattle.std.proofs.Common.{◌≡◌, ◌/◌, ◌%◌, ◌^◌, ap, ◌∙◌, ℕ, List, Bool, get_or, take, drop, arith, bit_and}
use Rattle.std.proofs.lemmas.List.{get_or_read}
use lib.Lanes.{mask_l}
use Rattle.bit_masks.proofs.Places.{length_of}
use Rattle.bit_masks.proofs.Parts.{bits_are}
use Rattle.bit_masks.proofs.mask.Mask.bits.Goals as goal

pub index-requires : goal.index-requires
index-requires c =
    let long = length_of c.self.inside.words.items c.self.inside.len c.args.self.now c.self.view_is in
    omega arith

pub returns : goal.returns
returns c =
    let long = length_of c.self.inside.words.items c.self.inside.len c.args.self.now c.self.view_is in
    let words = c.self.inside.words.items in
    let is : c.index.result.now ≡ get_or words (c.args.start / 64) 0 = get_or_read words (c.args.start / 64) c.index.result.now (omega arith) c.index.ensures 0 in
    ap (λ (w : ℕ). bit_and (w / 2 ^ (c.args.start % 64)) c.low_ones.result) is
    ∙ ap (bit_and (get_or words (c.args.start / 64) 0 / 2 ^ (c.args.start % 64))) c.low_ones.ensures
    ∙ bits_are words c.self.inside.len c.args.start c.args.count c.requires.1 (omega arith)
    ∙ ap (λ (xs : List Bool). mask_l (take c.args.count (drop c.args.start xs))) c.self.view_is
