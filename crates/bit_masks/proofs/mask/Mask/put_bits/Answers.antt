use Rattle.std.proofs.Common.{◌≡◌, ◌+◌, ◌≤◌, ◌/◌, ap, ◌∙◌, sym, subst, ℕ, List, Bool, false, get_or, length, arith, length-set, inl, inr}
use Rattle.std.proofs.lemmas.List.{get_or_read}
use Rattle.bit_masks.specs.Masks.{booleans, is_set}
use Rattle.bit_masks.proofs.Places.{length_of}
use Rattle.bit_masks.proofs.Parts.{put_is, put_inside, put_outside, is_set_outside}
use Rattle.bit_masks.proofs.mask.Mask.put_bits.Goals as goal

pub index-word-requires : goal.index-word-requires
index-word-requires c =
    let long = length_of c.self.inside.words.items c.self.inside.len c.args.self.now c.self.view_is in
    omega arith

pub index_mut-requires : goal.index_mut-requires
index_mut-requires c =
    let long = length_of c.self.inside.words.items c.self.inside.len c.args.self.now c.self.view_is in
    omega arith

pub invariant_of-self : goal.invariant_of-self
invariant_of-self c =
    let words = c.self.inside.words.items in
    let len = c.self.inside.len in
    let start = c.args.start in
    let long = length_of words len c.args.self.now c.self.view_is in
    let put = put_is words start c.args.count c.args.bits c.index-word.result.now c.low_ones.result (get_or_read words (start / 64) c.index-word.result.now (omega arith) c.index-word.ensures 0) c.low_ones.ensures in
    subst (λ (ws : List ℕ). (length ws ≡ len / 64 + 1) × ((i : ℕ) → len ≤ i → is_set ws i ≡ false)) (sym put) (
      length-set words (start / 64) _ ∙ c.self.invariant.0,
      λ i past. is_set_outside words len start c.args.count c.args.bits c.self.invariant.0 c.requires.1 (omega arith) c.requires.3 i (inr (omega arith)) ∙ c.self.invariant.1 i past,
    )

pub returns-clause-inside : goal.returns-clause-inside
returns-clause-inside c =
    let words = c.self.inside.words.items in
    let len = c.self.inside.len in
    let start = c.args.start in
    let long = length_of words len c.args.self.now c.self.view_is in
    let put = put_is words start c.args.count c.args.bits c.index-word.result.now c.low_ones.result (get_or_read words (start / 64) c.index-word.result.now (omega arith) c.index-word.ensures 0) c.low_ones.ensures in
    λ k below. ap (λ (ws : List ℕ). get_or (booleans ws len) (start + k) false) put
    ∙ put_inside words len start c.args.count c.args.bits c.self.invariant.0 c.requires.1 (omega arith) c.requires.3 k below

pub returns-clause-before : goal.returns-clause-before
returns-clause-before c =
    let words = c.self.inside.words.items in
    let len = c.self.inside.len in
    let start = c.args.start in
    let long = length_of words len c.args.self.now c.self.view_is in
    let put = put_is words start c.args.count c.args.bits c.index-word.result.now c.low_ones.result (get_or_read words (start / 64) c.index-word.result.now (omega arith) c.index-word.ensures 0) c.low_ones.ensures in
    λ k below. ap (λ (ws : List ℕ). get_or (booleans ws len) k false) put
    ∙ put_outside words len start c.args.count c.args.bits c.self.invariant.0 c.requires.1 (omega arith) c.requires.3 k (inl below)
    ∙ ap (λ (xs : List Bool). get_or xs k false) c.self.view_is

pub returns-clause-after : goal.returns-clause-after
returns-clause-after c =
    let words = c.self.inside.words.items in
    let len = c.self.inside.len in
    let start = c.args.start in
    let long = length_of words len c.args.self.now c.self.view_is in
    let put = put_is words start c.args.count c.args.bits c.index-word.result.now c.low_ones.result (get_or_read words (start / 64) c.index-word.result.now (omega arith) c.index-word.ensures 0) c.low_ones.ensures in
    λ k past. ap (λ (ws : List ℕ). get_or (booleans ws len) k false) put
    ∙ put_outside words len start c.args.count c.args.bits c.self.invariant.0 c.requires.1 (omega arith) c.requires.3 k (inr past)
    ∙ ap (λ (xs : List Bool). get_or xs k false) c.self.view_is
