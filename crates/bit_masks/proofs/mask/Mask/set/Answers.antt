use Rattle.std.proofs.Common.{◌≡◌, ◌/◌, ap, ◌∙◌, ℕ, List, Bool, get_or, set, arith, length-set}
use Rattle.std.proofs.lemmas.List.{get_or_read}
use Rattle.std.specs.Int.{bit_at}
use Rattle.bit_masks.proofs.Places.{length_of, booleans_set, is_set_kept}
use Rattle.bit_masks.proofs.mask.Mask.set.Goals as goal

pub index-requires : goal.index-requires
index-requires c =
    let long = length_of c.self.inside.words.items c.self.inside.len c.args.self.now c.self.view_is in
    omega arith

pub index_mut-requires : goal.index_mut-requires
index_mut-requires c =
    let long = length_of c.self.inside.words.items c.self.inside.len c.args.self.now c.self.view_is in
    omega arith

pub invariant_of-self : goal.invariant_of-self
invariant_of-self c =
    let long = length_of c.self.inside.words.items c.self.inside.len c.args.self.now c.self.view_is in
    let words = c.self.inside.words.items in
    let is : c.index.result.now ≡ get_or words (c.args.place / 64) 0 = get_or_read words (c.args.place / 64) c.index.result.now (omega arith) c.index.ensures 0 in (
      length-set words (c.args.place / 64) _ ∙ c.self.invariant.0,
      λ i past. is_set_kept words c.args.place c.with_bit-word.result (omega arith)
          (λ j below other. c.with_bit-word.ensures.elsewhere j below other ∙ ap (λ (w : ℕ). bit_at w j) is) i (λ e. omega arith)
          ∙ c.self.invariant.1 i past,
    )

pub returns : goal.returns
returns c =
    let long = length_of c.self.inside.words.items c.self.inside.len c.args.self.now c.self.view_is in
    let words = c.self.inside.words.items in
    let is : c.index.result.now ≡ get_or words (c.args.place / 64) 0 = get_or_read words (c.args.place / 64) c.index.result.now (omega arith) c.index.ensures 0 in
    booleans_set words c.args.place c.with_bit-word.result (omega arith)
    (λ j below other. c.with_bit-word.ensures.elsewhere j below other ∙ ap (λ (w : ℕ). bit_at w j) is) c.self.inside.len c.args.value (omega arith) c.with_bit-word.ensures.here
    ∙ ap (λ (xs : List Bool). set xs c.args.place c.args.value) c.self.view_is
