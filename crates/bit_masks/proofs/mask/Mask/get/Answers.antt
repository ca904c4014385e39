use Rattle.std.proofs.Common.{◌≡◌, ◌/◌, ◌%◌, ◌^◌, ap, eqb, ◌∙◌, sym, ℕ, List, Bool, false, get_or, arith, bit_and}
use Rattle.std.proofs.lemmas.List.{get_or_read}
use Rattle.std.proofs.lemmas.Nat.Bits.{shr_and_one}
use Rattle.bit_masks.proofs.Places.{length_of, get_or-booleans}
use Rattle.bit_masks.proofs.mask.Mask.get.Goals as goal

pub index-requires : goal.index-requires
index-requires c =
    let long = length_of c.self.inside.words.items c.self.inside.len c.args.self.now c.self.view_is in
    omega arith

pub returns : goal.returns
returns c =
    let long = length_of c.self.inside.words.items c.self.inside.len c.args.self.now c.self.view_is in
    let words = c.self.inside.words.items in
    let is : c.index.result.now ≡ get_or words (c.args.place / 64) 0 = get_or_read words (c.args.place / 64) c.index.result.now (omega arith) c.index.ensures 0 in
    ap (λ (w : ℕ). eqb (bit_and (w / 2 ^ (c.args.place % 64)) 1) 1) is
    ∙ ap (λ (b : ℕ). eqb b 1) (shr_and_one (get_or words (c.args.place / 64) 0) (c.args.place % 64))
    ∙ sym (get_or-booleans words c.self.inside.len c.args.place (omega arith))
    ∙ ap (λ (xs : List Bool). get_or xs c.args.place false) c.self.view_is
