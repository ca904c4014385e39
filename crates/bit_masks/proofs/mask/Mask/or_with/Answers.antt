use Rattle.std.proofs.Common.{◌≡◌, ◌+◌, ◌≤◌, ◌/◌, ap, ◌∙◌, sym, subst, refl, ℕ, List, false, ◌||◌, length, arith, bit_or}
use Rattle.std.proofs.lemmas.List.{with_items_is}
use Rattle.bit_masks.specs.Masks.{booleans, is_set}
use Rattle.bit_masks.proofs.Places.{length_of, words_combined, masks_combined, bit_of_or}
use Rattle.bit_masks.proofs.mask.Mask.or_with.Goals as goal

pub or_words-requires : goal.or_words-requires
or_words-requires c =
    let long = length_of c.self.inside.words.items c.self.inside.len c.args.self.now c.self.view_is in
    let long_other = length_of c.other.inside.words.items c.other.inside.len c.args.other.now c.other.view_is in
    let same : c.self.inside.len ≡ c.other.inside.len = omega arith in
    let words = ap (λ (n : ℕ). n / 64) same in
    omega arith

pub invariant_of-self : goal.invariant_of-self
invariant_of-self c =
    let words = c.self.inside.words.items in
    let len = c.self.inside.len in
    let long = length_of words len c.args.self.now c.self.view_is in
    let long_other = length_of c.other.inside.words.items c.other.inside.len c.args.other.now c.other.view_is in
    let made = c.or_words.new.left in
    let same_length = c.or_words.ensures.same_length ∙ ap length c.deref_mut.ensures.value in
    let each = rw (c.deref_mut.ensures.value, c.deref.ensures.value) at c.or_words.ensures.each in
    let is = with_items_is c.self.inside.words made (omega arith) in
    subst (λ (ws : List ℕ). (length ws ≡ len / 64 + 1) × ((i : ℕ) → len ≤ i → is_set ws i ≡ false)) (sym is)
    (words_combined (◌||◌) bit_or words c.other.inside.words.items made len bit_of_or refl c.self.invariant.0 same_length each c.other.inside.len (omega arith) c.self.invariant.1 c.other.invariant.1)

pub returns : goal.returns
returns c =
    let words = c.self.inside.words.items in
    let len = c.self.inside.len in
    let long = length_of words len c.args.self.now c.self.view_is in
    let long_other = length_of c.other.inside.words.items c.other.inside.len c.args.other.now c.other.view_is in
    let made = c.or_words.new.left in
    let same_length = c.or_words.ensures.same_length ∙ ap length c.deref_mut.ensures.value in
    let each = rw (c.deref_mut.ensures.value, c.deref.ensures.value) at c.or_words.ensures.each in
    ap (λ (ws : List ℕ). booleans ws len) (with_items_is c.self.inside.words made (omega arith))
    ∙ masks_combined (◌||◌) bit_or words c.other.inside.words.items made len bit_of_or refl c.self.invariant.0 same_length each c.other.inside.len c.args.self.now c.args.other.now (omega arith) c.self.view_is c.other.view_is
