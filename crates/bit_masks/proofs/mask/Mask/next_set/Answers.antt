use Rattle.std.proofs.Common.{rules, Some, None, ◌≡◌, ◌+◌, ◌*◌, ◌<◌, ◌/◌, ◌%◌, ◌^◌, ap, sym, subst, ℕ, List, Bool, get_or, arith, w64}
use Rattle.std.specs.Int.{trailing_zeros}
use Rattle.bit_masks.specs.Masks.{IsNextSet, IsNextWord}
use Rattle.bit_masks.proofs.Places.{length_of, words_fit}
use Rattle.bit_masks.proofs.Searches.{found_first, found_none, found_next, first_within}
use Rattle.bit_masks.proofs.mask.Mask.next_set.Goals as goal

pub returns-then-start-self : goal.returns-then-start-self
returns-then-start-self c =
    let long = length_of c.self.inside.words.items c.self.inside.len c.args.self.now c.self.view_is in
    λ i from below. absurd (omega arith)

pub overflow_add-result : goal.overflow_add-result
overflow_add-result c =
    let words = c.self.inside.words.items in
    let len = c.self.inside.len in
    let start = c.args.start in
    let fit = words_fit c.as_slice-words.result.now words c.as_slice-words.ensures.value (search rules) in
    let some : 0 < get_or words (start / 64) 0 / 2 ^ (start % 64) = subst (λ (ws : List ℕ). 0 < get_or ws (start / 64) 0 / 2 ^ (start % 64)) c.as_slice-words.ensures.value (omega arith) in
    let within = first_within words len fit c.self.invariant.1 start some in
    let same : trailing_zeros w64 (get_or c.as_slice-words.result.now (start / 64) 0 / 2 ^ (start % 64)) ≡ trailing_zeros w64 (get_or words (start / 64) 0 / 2 ^ (start % 64)) = ap (λ (ws : List ℕ). trailing_zeros w64 (get_or ws (start / 64) 0 / 2 ^ (start % 64))) c.as_slice-words.ensures.value in
    record { fits = omega arith }

pub returns-then-word-ne0 : goal.returns-then-word-ne0
returns-then-word-ne0 c =
    let words = c.self.inside.words.items in
    let len = c.self.inside.len in
    let start = c.args.start in
    let fit = words_fit c.as_slice-words.result.now words c.as_slice-words.ensures.value (search rules) in
    let some : 0 < get_or words (start / 64) 0 / 2 ^ (start % 64) = subst (λ (ws : List ℕ). 0 < get_or ws (start / 64) 0 / 2 ^ (start % 64)) c.as_slice-words.ensures.value (omega arith) in
    subst (λ (ws : List ℕ). IsNextSet c.args.self.now start (Some (start + trailing_zeros w64 (get_or ws (start / 64) 0 / 2 ^ (start % 64))))) (sym c.as_slice-words.ensures.value)
    (subst (λ (xs : List Bool). IsNextSet xs start (Some (start + trailing_zeros w64 (get_or words (start / 64) 0 / 2 ^ (start % 64))))) c.self.view_is
    (found_first words len fit c.self.invariant.1 start some))

pub returns-in-Some : goal.returns-in-Some
returns-in-Some c =
    let words = c.self.inside.words.items in
    let len = c.self.inside.len in
    let start = c.args.start in
    let fit = words_fit c.as_slice-words.result.now words c.as_slice-words.ensures.value (search rules) in
    let nothing : get_or words (start / 64) 0 / 2 ^ (start % 64) ≡ 0 = subst (λ (ws : List ℕ). get_or ws (start / 64) 0 / 2 ^ (start % 64) ≡ 0) c.as_slice-words.ensures.value c.if-word-ne0.false in
    let index = c.in-Some.index in
    let next : IsNextWord words (start / 64 + 1) (Some index) = subst (λ (ws : List ℕ). IsNextWord ws (start / 64 + 1) (Some index)) c.as_slice-words.ensures.value (subst (IsNextWord c.as_slice-words.result.now (start / 64 + 1)) c.in-Some.is c.next_word.ensures) in
    subst (λ (ws : List ℕ). IsNextSet c.args.self.now start (Some (index * 64 + trailing_zeros w64 (get_or ws index 0)))) (sym c.as_slice-words.ensures.value)
    (subst (λ (xs : List Bool). IsNextSet xs start (Some (index * 64 + trailing_zeros w64 (get_or words index 0)))) c.self.view_is
    (found_next words len fit c.self.invariant.1 start index nothing next))

pub returns-in-None : goal.returns-in-None
returns-in-None c =
    let words = c.self.inside.words.items in
    let len = c.self.inside.len in
    let start = c.args.start in
    let fit = words_fit c.as_slice-words.result.now words c.as_slice-words.ensures.value (search rules) in
    let nothing : get_or words (start / 64) 0 / 2 ^ (start % 64) ≡ 0 = subst (λ (ws : List ℕ). get_or ws (start / 64) 0 / 2 ^ (start % 64) ≡ 0) c.as_slice-words.ensures.value c.if-word-ne0.false in
    let next : IsNextWord words (start / 64 + 1) None = subst (λ (ws : List ℕ). IsNextWord ws (start / 64 + 1) None) c.as_slice-words.ensures.value (subst (IsNextWord c.as_slice-words.result.now (start / 64 + 1)) c.in-None.is c.next_word.ensures) in
    subst (λ (xs : List Bool). IsNextSet xs start None) c.self.view_is (found_none words len fit c.self.invariant.1 start nothing next)
