use Rattle.std.proofs.Common.{◌≡◌, ◌+◌, ◌≤◌, ◌/◌, ap, ◌∙◌, sym, subst, ℕ, List, false, not, length, map, arith, length-set}
use Rattle.std.proofs.lemmas.List.{get_or_read, with_items_is}
use Rattle.bit_masks.specs.Masks.{booleans, is_set}
use Rattle.bit_masks.proofs.Places.{cut_is, none_past_cut, booleans_flipped}
use Rattle.bit_masks.proofs.mask.Mask.flip.Goals as goal

pub invariant_of-self : goal.invariant_of-self
invariant_of-self c =
    let len = c.self.inside.len in
    let made = c.flip_words.new.words in
    let same_length = c.flip_words.ensures.same_length ∙ ap length c.as_mut_slice-words.ensures.value in
    let is = with_items_is c.self.inside.words made (omega arith) in
    let last = get_or_read made (len / 64) c.index_mut.result.now (omega arith) (rw is at c.index_mut.ensures.value) 0 in
    subst (λ (ws : List ℕ). (length ws ≡ len / 64 + 1) × ((i : ℕ) → len ≤ i → is_set ws i ≡ false)) (sym (cut_is _ made len _ _ is last c.low_ones.ensures))
    (length-set made (len / 64) _ ∙ same_length ∙ c.self.invariant.0, none_past_cut made len (same_length ∙ c.self.invariant.0))

pub returns : goal.returns
returns c =
    let words = c.self.inside.words.items in
    let len = c.self.inside.len in
    let made = c.flip_words.new.words in
    let same_length = c.flip_words.ensures.same_length ∙ ap length c.as_mut_slice-words.ensures.value in
    let each = rw c.as_mut_slice-words.ensures.value at c.flip_words.ensures.each in
    let fit = rw c.as_mut_slice-words.ensures.value at c.flip_words.ensures.fit in
    let is = with_items_is c.self.inside.words made (omega arith) in
    let last = get_or_read made (len / 64) c.index_mut.result.now (omega arith) (rw is at c.index_mut.ensures.value) 0 in
    ap (λ (ws : List ℕ). booleans ws len) (cut_is _ made len _ _ is last c.low_ones.ensures)
    ∙ booleans_flipped words made len c.self.invariant.0 same_length (λ k within. fit k) each
    ∙ ap (map not) c.self.view_is
