-- The least place that is set, and the places of a part of a word.
use Rattle.std.proofs.Common.{◌≡◌, ◌≢◌, ℕ, ◌+◌, ◌-◌, ◌*◌, ◌/◌, ◌%◌, ◌^◌, ◌<◌, ◌≤◌, true, false, eqb, Some, None, List, length, get_or, refl, sym, ap, ◌∙◌, ⊎_elim, arith}
use Rattle.std.proofs.lemmas.Bool.{cases_eq, cases_lt, both_ways}
use Rattle.std.proofs.lemmas.Nat.{shr-shr, shr_le}
use Rattle.std.proofs.lemmas.Nat.Bits.{bit_at-zero, bit_at_above, bit_at-trailing_zeros}
use Rattle.std.specs.Int.{bit_at, trailing_zeros}
use mir.Syntax.{w64}
use Rattle.bit_masks.specs.Masks.{is_set, booleans, IsNextSet, IsNextWord}
use Rattle.bit_masks.proofs.Places.{is_set_past, length-booleans, get_or-booleans}

lt_of_shr : (word s : ℕ) → word < 2 ^ 64 → word / 2 ^ s < 2 ^ 64
lt_of_shr word s fits = let le = shr_le word s in omega arith

-- a bit of the word past `start`
pub bit_past : (word s j : ℕ) → bit_at (word / 2 ^ s) j ≡ bit_at word (s + j)
bit_past word s j = ap (λ (x : ℕ). x % 2) (shr-shr word s j)

module _ (words : List ℕ) (len : ℕ) (fits : (k : ℕ) → get_or words k 0 < 2 ^ 64) (none : (i : ℕ) → len ≤ i → is_set words i ≡ false) where
  inside : (i : ℕ) → is_set words i ≡ true → i < len
  inside i set = ⊎_elim (λ (below : i < len). below) (λ (past : len ≤ i). absurd (both_ways (is_set words i) (none i past) set)) (cases_lt i len)

  -- a place by its word and its bit
  at : (i index bit : ℕ) → i ≡ index * 64 + bit → bit < 64 → is_set words i ≡ eqb (bit_at (get_or words index 0) bit) 1
  at i index bit e below =
      let quotient : i / 64 ≡ index = omega arith in
      let rest : i % 64 ≡ bit = omega arith in
      ap (λ (k : ℕ). eqb (bit_at (get_or words k 0) (i % 64)) 1) quotient ∙ ap (λ (j : ℕ). eqb (bit_at (get_or words index 0) j) 1) rest

  zero_word : (i : ℕ) → get_or words (i / 64) 0 ≡ 0 → is_set words i ≡ false
  zero_word i none_there = ap (λ (w : ℕ). eqb (bit_at w (i % 64)) 1) none_there ∙ ap (λ (b : ℕ). eqb b 1) (bit_at-zero (i % 64))

  module _ (start : ℕ) where
    pub found_past_end : len ≤ start → IsNextSet (booleans words len) start None
    found_past_end past i from below = absurd (let e = length-booleans words len in omega arith)

    first_found : 0 < get_or words (start / 64) 0 / 2 ^ (start % 64)
        → (start + trailing_zeros w64 (get_or words (start / 64) 0 / 2 ^ (start % 64)) < len)
        × (is_set words (start + trailing_zeros w64 (get_or words (start / 64) 0 / 2 ^ (start % 64))) ≡ true)
        × ((i : ℕ) → start ≤ i → i < start + trailing_zeros w64 (get_or words (start / 64) 0 / 2 ^ (start % 64)) → is_set words i ≡ false)
    first_found some =
        let word = get_or words (start / 64) 0 in
        let s = start % 64 in
        let place = trailing_zeros w64 (word / 2 ^ s) in
        let lowest = bit_at-trailing_zeros w64 (word / 2 ^ s) some (lt_of_shr word s (fits (start / 64))) in
        let bit : bit_at word (s + place) ≡ 1 = sym (bit_past word s place) ∙ lowest.1 in
        let below : s + place < 64 = ⊎_elim (λ (h : s + place < 64). h) (λ (h : 64 ≤ s + place). absurd (let z = bit_at_above word 64 (s + place) (fits (start / 64)) h in omega arith)) (cases_lt (s + place) 64) in
        let is : is_set words (start + place) ≡ true = at (start + place) (start / 64) (s + place) (omega arith) below ∙ ap (λ (b : ℕ). eqb b 1) bit in (
          inside (start + place) is,
          is,
          λ i from before. at i (start / 64) (s + (i - start)) (omega arith) (omega arith)
              ∙ ap (λ (b : ℕ). eqb b 1) (sym (bit_past word s (i - start)) ∙ lowest.2 (i - start) (omega arith)),
        )

    pub first_within : 0 < get_or words (start / 64) 0 / 2 ^ (start % 64) → start + trailing_zeros w64 (get_or words (start / 64) 0 / 2 ^ (start % 64)) < len
    first_within some = (first_found some).0

    pub found_first : 0 < get_or words (start / 64) 0 / 2 ^ (start % 64) → IsNextSet (booleans words len) start (Some (start + trailing_zeros w64 (get_or words (start / 64) 0 / 2 ^ (start % 64))))
    found_first some =
        let found = first_found some in
        let long = length-booleans words len in (
          omega arith,
          omega (arith, found.0, long),
          get_or-booleans words len _ found.0 ∙ found.1,
          λ i from before. get_or-booleans words len i (let w = found.0 in omega arith) ∙ found.2 i from before,
        )

    rest_of_word : get_or words (start / 64) 0 / 2 ^ (start % 64) ≡ 0 → (i : ℕ) → start ≤ i → i / 64 ≡ start / 64 → is_set words i ≡ false
    rest_of_word nothing i from same =
        at i (start / 64) (start % 64 + (i - start)) (omega arith) (omega arith)
        ∙ ap (λ (b : ℕ). eqb b 1) (sym (bit_past (get_or words (start / 64) 0) (start % 64) (i - start)) ∙ ap (λ (w : ℕ). bit_at w (i - start)) nothing ∙ bit_at-zero (i - start))

    pub found_none : get_or words (start / 64) 0 / 2 ^ (start % 64) ≡ 0 → IsNextWord words (start / 64 + 1) None → IsNextSet (booleans words len) start None
    found_none nothing further i from below =
        let long = length-booleans words len in
        get_or-booleans words len i (omega arith)
        ∙ ⊎_elim (λ (same : i / 64 ≡ start / 64). rest_of_word nothing i from same)
        (λ (other : i / 64 ≢ start / 64). ⊎_elim
        (λ (there : i / 64 < length words). zero_word i (further (i / 64) (omega arith) there))
        (λ (past : length words ≤ i / 64). is_set_past words i past)
        (cases_lt (i / 64) (length words)))
        (cases_eq (i / 64) (start / 64))

    module _ (index : ℕ) (nothing : get_or words (start / 64) 0 / 2 ^ (start % 64) ≡ 0) (next : IsNextWord words (start / 64 + 1) (Some index)) where
      next_found : (index * 64 + trailing_zeros w64 (get_or words index 0) < len)
          × (is_set words (index * 64 + trailing_zeros w64 (get_or words index 0)) ≡ true)
          × ((i : ℕ) → start ≤ i → i < index * 64 + trailing_zeros w64 (get_or words index 0) → is_set words i ≡ false)
      next_found =
          let word = get_or words index 0 in
          let place = trailing_zeros w64 word in
          let lowest = bit_at-trailing_zeros w64 word next.2 (fits index) in
          let is : is_set words (index * 64 + place) ≡ true = at (index * 64 + place) index place refl lowest.0 ∙ ap (λ (b : ℕ). eqb b 1) lowest.1 in
          let within = lowest.0 in
          let after = next.0 in (
            inside (index * 64 + place) is,
            is,
            λ i from before. ⊎_elim (λ (same : i / 64 ≡ start / 64). rest_of_word nothing i from same)
                (λ (other : i / 64 ≢ start / 64). ⊎_elim
                (λ (there : i / 64 ≡ index). at i index (i % 64) (omega arith) (omega arith) ∙ ap (λ (b : ℕ). eqb b 1) (lowest.2 (i % 64) (omega arith)))
                (λ (before_it : i / 64 ≢ index). zero_word i (next.3 (i / 64) (omega arith) (omega arith)))
                (cases_eq (i / 64) index))
                (cases_eq (i / 64) (start / 64)),
          )

      pub next_within : index * 64 + trailing_zeros w64 (get_or words index 0) < len
      next_within = next_found.0

      pub found_next : IsNextSet (booleans words len) start (Some (index * 64 + trailing_zeros w64 (get_or words index 0)))
      found_next =
          let found = next_found in
          let long = length-booleans words len in
          let after = next.0 in
          let within = found.0 in (
            omega arith,
            omega arith,
            get_or-booleans words len _ found.0 ∙ found.1,
            λ i from before. get_or-booleans words len i (omega arith) ∙ found.2 i from before,
          )
