use Rattle.std.proofs.Common.{◌≡◌, ◌+◌, ◌≤◌, ◌/◌, ap, ◌∙◌, sym, subst, ℕ, List, false, length, replicate, arith, length-set}
use Rattle.std.proofs.lemmas.List.{get_or_read}
use Rattle.std.proofs.lemmas.Simd.{length-replicate}
use Rattle.bit_masks.specs.Masks.{booleans, is_set}
use Rattle.bit_masks.proofs.Places.{cut_words, cut_is, none_past_cut, booleans_filled}
use Rattle.bit_masks.proofs.mask.Mask.new.Goals as goal

pub invariant_of-result : goal.invariant_of-result
invariant_of-result c =
    let len = c.args.len in
    let words = replicate (len / 64 + 1) c.word_of.result in
    let is = c.in_ok-words.ensures.items_if_clones_equal (λ y e. e) in
    let long : length words ≡ len / 64 + 1 = length-replicate (len / 64 + 1) c.word_of.result in
    let last = get_or_read words (len / 64) c.index_mut.result.now (omega arith) (rw is at c.index_mut.ensures.value) 0 in
    subst (λ (ws : List ℕ). (length ws ≡ len / 64 + 1) × ((i : ℕ) → len ≤ i → is_set ws i ≡ false)) (sym (cut_is _ words len _ _ is last c.low_ones.ensures))
    (length-set words (len / 64) _ ∙ long, none_past_cut words len long)

pub returns : goal.returns
returns c =
    let len = c.args.len in
    let words = replicate (len / 64 + 1) c.word_of.result in
    let is = c.in_ok-words.ensures.items_if_clones_equal (λ y e. e) in
    let long : length words ≡ len / 64 + 1 = length-replicate (len / 64 + 1) c.word_of.result in
    let last = get_or_read words (len / 64) c.index_mut.result.now (omega arith) (rw is at c.index_mut.ensures.value) 0 in
    ap (λ (ws : List ℕ). booleans ws len) (cut_is _ words len _ _ is last c.low_ones.ensures)
    ∙ ap (λ (w : ℕ). booleans (cut_words (replicate (len / 64 + 1) w) len) len) c.word_of.ensures
    ∙ booleans_filled len c.args.value
