-- The places of a part of a word, as the bits of a number.
use Rattle.std.proofs.Common.{◌≡◌, ◌≢◌, ℕ, ◌+◌, ◌-◌, ◌*◌, ◌/◌, ◌%◌, ◌^◌, ◌<◌, ◌≤◌, Bool, true, false, cond, eqb, not, ◌&&◌, ◌||◌, List, length, get_or, set, take, drop, refl, sym, ap, ◌∙◌, ◌⊎◌, inl, inr, ⊎_elim, arith, bit_and, bit_or}
use Rattle.std.proofs.lemmas.Bool.{cases_eq, cases_lt, lt-ltb, le-ltb}
use Rattle.std.proofs.lemmas.List.{get_or_past}
use Rattle.std.proofs.lemmas.Nat.{pow_pos, shl_whole}
use Rattle.std.proofs.lemmas.Nat.Bits.{bit_at-zero, bit_at-lt, bit_at_above, bit_at_ones, bit_at_cat_low, bit_at_cat_high, same_from_bits}
use Rattle.std.proofs.lemmas.Simd.{bit_mask_l, get_or-chunk, length-chunk}
use Rattle.std.specs.Int.{bit_at, bit_not}
use mir.Syntax.{w64}
use lib.Lanes.{chunk, mask_l}
use Rattle.bit_masks.specs.Masks.{is_set, booleans}
use Rattle.bit_masks.proofs.Places.{as_bit, is_set_here, is_set_elsewhere, length-booleans, get_or-booleans, bit_of_lowest, bit_of_or, bit_of_and, bit_of_not, and_true, and_false}
use Rattle.bit_masks.proofs.Searches.{bit_past}

or_false : (b : Bool) → (b || false) ≡ b
or_false true = refl
or_false false = refl

-- a place of the word that `start` lies in
here : (words : List ℕ) (start i bit : ℕ) → i / 64 ≡ start / 64 → i % 64 ≡ bit → is_set words i ≡ eqb (bit_at (get_or words (start / 64) 0) bit) 1
here words start i bit same is_bit = ap (λ (k : ℕ). eqb (bit_at (get_or words k 0) (i % 64)) 1) same ∙ ap (λ (j : ℕ). eqb (bit_at (get_or words (start / 64) 0) j) 1) is_bit

pub bits_are : (words : List ℕ) (len start count : ℕ) → start % 64 + count ≤ 64 → start + count ≤ len
    → bit_and (get_or words (start / 64) 0 / 2 ^ (start % 64)) (2 ^ count - 1) ≡ mask_l (take count (drop start (booleans words len)))
bits_are words len start count one_word within =
    let word = get_or words (start / 64) 0 / 2 ^ (start % 64) in
    let part = chunk start count (booleans words len) in
    let long : length part ≡ count = length-chunk start count (booleans words len) (let e = length-booleans words len in omega arith) in
    same_from_bits (bit_and word (2 ^ count - 1)) (mask_l part) (λ j.
    sym (as_bit (bit_at (bit_and word (2 ^ count - 1)) j) (bit_at-lt _ j))
    ∙ ap (λ (b : Bool). cond b 1 0) (bit_of_lowest word count j ∙ ⊎_elim
    (λ (below : j < count).
    ap (λ (b : Bool). eqb (bit_at word j) 1 && b) (lt-ltb j count below)
    ∙ and_true _
    ∙ ap (λ (b : ℕ). eqb b 1) (bit_past (get_or words (start / 64) 0) (start % 64) j)
    ∙ sym (get_or-chunk start count (booleans words len) j false below
    ∙ get_or-booleans words len (start + j) (omega arith)
    ∙ here words start (start + j) (start % 64 + j) (omega arith) (omega arith)))
    (λ (past : count ≤ j).
    ap (λ (b : Bool). eqb (bit_at word j) 1 && b) (le-ltb j count past)
    ∙ and_false _
    ∙ sym (get_or_past part j false (omega arith)))
    (cases_lt j count))
    ∙ sym (bit_mask_l part j))

-- a word of which `count` bits from s on are those of `bits`
abbrev pub word_with : ℕ → ℕ → ℕ → ℕ → ℕ
word_with word s count bits = bit_or (bit_and word (bit_not w64 ((2 ^ count - 1) * 2 ^ s % 2 ^ 64))) (bits * 2 ^ s % 2 ^ 64)

-- a number moved up by s bits
module _ (a count s : ℕ) (fits : a < 2 ^ count) (room : s + count ≤ 64) where
  whole : a * 2 ^ s % 2 ^ 64 ≡ a * 2 ^ s + 0
  whole = shl_whole a count s 64 fits (omega arith) ∙ (let e : a * 2 ^ s ≡ a * 2 ^ s + 0 = omega arith in e)

  pub moved_below : (j : ℕ) → j < s → bit_at (a * 2 ^ s % 2 ^ 64) j ≡ 0
  moved_below j below = ap (λ (x : ℕ). bit_at x j) whole ∙ bit_at_cat_low a s 0 j below ∙ bit_at-zero j

  pub moved_from : (j : ℕ) → s ≤ j → bit_at (a * 2 ^ s % 2 ^ 64) j ≡ bit_at a (j - s)
  moved_from j from = ap (λ (x : ℕ). bit_at x j) whole ∙ bit_at_cat_high a s 0 j (pow_pos s) from

  pub moved_above : (j : ℕ) → s + count ≤ j → bit_at (a * 2 ^ s % 2 ^ 64) j ≡ 0
  moved_above j past = moved_from j (omega arith) ∙ bit_at_above a count (j - s) fits (omega arith)

  pub moved_fits : a * 2 ^ s % 2 ^ 64 < 2 ^ 64
  moved_fits = omega arith

module _ (word s count bits : ℕ) (room : s + count ≤ 64) (fits : bits < 2 ^ count) where
  ones_fit : 2 ^ count - 1 < 2 ^ count
  ones_fit = let p = pow_pos count in omega arith

  with_bit : (j : ℕ) → j < 64 → eqb (bit_at (word_with word s count bits) j) 1
      ≡ ((eqb (bit_at word j) 1 && not (eqb (bit_at ((2 ^ count - 1) * 2 ^ s % 2 ^ 64) j) 1)) || eqb (bit_at (bits * 2 ^ s % 2 ^ 64) j) 1)
  with_bit j below =
      bit_of_or (bit_and word (bit_not w64 ((2 ^ count - 1) * 2 ^ s % 2 ^ 64))) (bits * 2 ^ s % 2 ^ 64) j
      ∙ ap (λ (b : Bool). b || eqb (bit_at (bits * 2 ^ s % 2 ^ 64) j) 1)
      (bit_of_and word (bit_not w64 ((2 ^ count - 1) * 2 ^ s % 2 ^ 64)) j
      ∙ ap (λ (b : Bool). eqb (bit_at word j) 1 && b) (bit_of_not ((2 ^ count - 1) * 2 ^ s % 2 ^ 64) j (moved_fits (2 ^ count - 1) count s ones_fit room) below))

  pub with_inside : (k : ℕ) → k < count → eqb (bit_at (word_with word s count bits) (s + k)) 1 ≡ eqb (bit_at bits k) 1
  with_inside k below =
      let shift : s + k - s ≡ k = omega arith in
      let mask : bit_at ((2 ^ count - 1) * 2 ^ s % 2 ^ 64) (s + k) ≡ 1 = moved_from (2 ^ count - 1) count s ones_fit room (s + k) (omega arith) ∙ ap (bit_at (2 ^ count - 1)) shift ∙ bit_at_ones count k below in
      let put : bit_at (bits * 2 ^ s % 2 ^ 64) (s + k) ≡ bit_at bits k = moved_from bits count s fits room (s + k) (omega arith) ∙ ap (bit_at bits) shift in
      with_bit (s + k) (omega arith)
      ∙ ap (λ (b : ℕ). (eqb (bit_at word (s + k)) 1 && not (eqb b 1)) || eqb (bit_at (bits * 2 ^ s % 2 ^ 64) (s + k)) 1) mask
      ∙ ap (λ (b : Bool). b || eqb (bit_at (bits * 2 ^ s % 2 ^ 64) (s + k)) 1) (and_false _)
      ∙ ap (λ (b : ℕ). eqb b 1) put

  outside : (j : ℕ) → j < 64 → bit_at ((2 ^ count - 1) * 2 ^ s % 2 ^ 64) j ≡ 0 → bit_at (bits * 2 ^ s % 2 ^ 64) j ≡ 0 → eqb (bit_at (word_with word s count bits) j) 1 ≡ eqb (bit_at word j) 1
  outside j below mask put =
      with_bit j below
      ∙ ap (λ (b : ℕ). (eqb (bit_at word j) 1 && not (eqb b 1)) || eqb (bit_at (bits * 2 ^ s % 2 ^ 64) j) 1) mask
      ∙ ap (λ (b : ℕ). (eqb (bit_at word j) 1 && true) || eqb b 1) put
      ∙ or_false _
      ∙ and_true _

  pub with_outside : (j : ℕ) → j < 64 → (j < s) ⊎ (s + count ≤ j) → eqb (bit_at (word_with word s count bits) j) 1 ≡ eqb (bit_at word j) 1
  with_outside j below where_it_is = ⊎_elim
      (λ (before : j < s). outside j below (moved_below (2 ^ count - 1) count s ones_fit room j before) (moved_below bits count s fits room j before))
      (λ (past : s + count ≤ j). outside j below (moved_above (2 ^ count - 1) count s ones_fit room j past) (moved_above bits count s fits room j past))
      where_it_is

-- the words after `count` places from `start` on are put
abbrev pub put_words : List ℕ → ℕ → ℕ → ℕ → List ℕ
put_words words start count bits = set words (start / 64) (word_with (get_or words (start / 64) 0) (start % 64) count bits)

-- they come of the word that was read and of as many ones
pub put_is : (words : List ℕ) (start count bits word ones : ℕ) → word ≡ get_or words (start / 64) 0 → ones ≡ 2 ^ count - 1
    → set words (start / 64) (bit_or (bit_and word (bit_not w64 (ones * 2 ^ (start % 64) % 2 ^ 64))) (bits * 2 ^ (start % 64) % 2 ^ 64)) ≡ put_words words start count bits
put_is words start count bits word ones read as_many =
    ap (λ (n : ℕ). set words (start / 64) (bit_or (bit_and word (bit_not w64 (n * 2 ^ (start % 64) % 2 ^ 64))) (bits * 2 ^ (start % 64) % 2 ^ 64))) as_many
    ∙ ap (λ (w : ℕ). set words (start / 64) (word_with w (start % 64) count bits)) read

module _ (words : List ℕ) (len start count bits : ℕ) (long : length words ≡ len / 64 + 1) (one_word : start % 64 + count ≤ 64) (within : start + count ≤ len) (fits : bits < 2 ^ count) where
  pub put_inside : (k : ℕ) → k < count → get_or (booleans (put_words words start count bits) len) (start + k) false ≡ eqb (bit_at bits k) 1
  put_inside k below =
      let same : (start + k) / 64 ≡ start / 64 = omega arith in
      let bit : (start + k) % 64 ≡ start % 64 + k = omega arith in
      get_or-booleans (put_words words start count bits) len (start + k) (omega arith)
      ∙ is_set_here words (start / 64) (word_with (get_or words (start / 64) 0) (start % 64) count bits) (start + k) (omega arith) same
      ∙ ap (λ (j : ℕ). eqb (bit_at (word_with (get_or words (start / 64) 0) (start % 64) count bits) j) 1) bit
      ∙ with_inside (get_or words (start / 64) 0) (start % 64) count bits one_word fits k below

  pub is_set_outside : (i : ℕ) → (i < start) ⊎ (start + count ≤ i) → is_set (put_words words start count bits) i ≡ is_set words i
  is_set_outside i where_it_is = ⊎_elim
      (λ (same : i / 64 ≡ start / 64).
      is_set_here words (start / 64) _ i (omega arith) same
      ∙ with_outside (get_or words (start / 64) 0) (start % 64) count bits one_word fits (i % 64) (omega arith)
      (⊎_elim (λ (before : i < start). inl (omega arith)) (λ (past : start + count ≤ i). inr (omega arith)) where_it_is)
      ∙ ap (λ (k : ℕ). eqb (bit_at (get_or words k 0) (i % 64)) 1) (sym same))
      (λ (other : i / 64 ≢ start / 64). is_set_elsewhere words (start / 64) _ i other)
      (cases_eq (i / 64) (start / 64))

  pub put_outside : (i : ℕ) → (i < start) ⊎ (start + count ≤ i) → get_or (booleans (put_words words start count bits) len) i false ≡ get_or (booleans words len) i false
  put_outside i where_it_is = ⊎_elim
      (λ (below : i < len). get_or-booleans (put_words words start count bits) len i below ∙ is_set_outside i where_it_is ∙ sym (get_or-booleans words len i below))
      (λ (past : len ≤ i).
      get_or_past (booleans (put_words words start count bits) len) i false (let e = length-booleans (put_words words start count bits) len in omega arith)
      ∙ sym (get_or_past (booleans words len) i false (let e = length-booleans words len in omega arith)))
      (cases_lt i len)
