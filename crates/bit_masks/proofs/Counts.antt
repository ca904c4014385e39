-- How many places are set is how many bits of the words are 1.
use Rattle.std.proofs.Common.{◌≡◌, ℕ, zero, suc, ◌+◌, ◌-◌, ◌*◌, ◌/◌, ◌%◌, ◌^◌, ◌<◌, ◌≤◌, Bool, false, cond, eqb, List, [], ◌∷◌, length, get_or, map, refl, sym, ap, ◌∙◌, subst, arith, count_by, count_ones}
use Rattle.std.proofs.lemmas.List.Sums.{sum_by-cons}
use Rattle.std.proofs.lemmas.List.FromFn.{length-map-range_with_len, get_or-map-range_with_len}
use Rattle.std.proofs.lemmas.Nat.Bits.{bit_at-lt, same_from_bits_below}
use Rattle.std.proofs.lemmas.Simd.{bit_mask_l, mask_l-lt, ones-mask_l}
use Rattle.std.specs.List.{range_with_len, sum_by}
use Rattle.std.specs.Int.{bit_at}
use lib.Lanes.{mask_l}
use Rattle.bit_masks.specs.Masks.{is_set, booleans}
use Rattle.bit_masks.proofs.Places.{is_set_past, as_bit}

abbrev one_if : Bool → ℕ
one_if t = cond t 1 0

-- how many of the n numbers from a on pass p
tally : (ℕ → Bool) → ℕ → ℕ → ℕ
tally p a zero = 0
tally p a (suc n) = cond (p a) 1 0 + tally p (a + 1) n

count-range : (p : ℕ → Bool) (a n : ℕ) → count_by p (range_with_len a n) ≡ tally p a n
unfolding tally
count-range p a zero = refl
count-range p a (suc n) = sum_by-cons (λ x. cond (p x) 1 0) a (range_with_len (a + 1) n) ∙ ap (λ (k : ℕ). cond (p a) 1 0 + k) (count-range p (a + 1) n)

count-map-range : (p : ℕ → Bool) (a n : ℕ) → count_by (λ b. b) (map p (range_with_len a n)) ≡ tally p a n
unfolding tally
count-map-range p a zero = refl
count-map-range p a (suc n) = sum_by-cons (λ b. cond b 1 0) (p a) (map p (range_with_len (a + 1) n)) ∙ ap (λ (k : ℕ). cond (p a) 1 0 + k) (count-map-range p (a + 1) n)

tally-split : (p : ℕ → Bool) (a m n k : ℕ) → k ≡ m + n → tally p a k ≡ tally p a m + tally p (a + m) n
unfolding tally
tally-split p a zero n k e =
    let same : k ≡ n = omega arith in
    let start : a + 0 ≡ a = omega arith in
    rw (same, start) (omega arith)
tally-split p a (suc m) n zero e = absurd (omega arith)
tally-split p a (suc m) n (suc k) e =
    let further : a + 1 + m ≡ a + suc m = omega arith in
    let rest : tally p (a + 1) k ≡ tally p (a + 1) m + tally p (a + suc m) n = tally-split p (a + 1) m n k (omega arith) ∙ ap (λ (b : ℕ). tally p (a + 1) m + tally p b n) further in
    omega (arith, rest)

tally-same : (p q : ℕ → Bool) (a b n : ℕ) → ((i k : ℕ) → a ≤ i → i < a + n → i + b ≡ k + a → p i ≡ q k) → tally p a n ≡ tally q b n
unfolding tally
tally-same p q a b zero same = refl
tally-same p q a b (suc n) same =
    let first : one_if (p a) ≡ one_if (q b) = ap one_if (same a b (omega arith) (omega arith) (omega arith)) in
    let rest = tally-same p q (a + 1) (b + 1) n (λ i k from below shift. same i k (omega arith) (omega arith) (omega arith)) in
    ap (λ (x : ℕ). x + tally p (a + 1) n) first ∙ ap (λ (x : ℕ). cond (q b) 1 0 + x) rest

tally-none : (p : ℕ → Bool) (a n : ℕ) → ((i : ℕ) → a ≤ i → p i ≡ false) → tally p a n ≡ 0
unfolding tally
tally-none p a zero none = refl
tally-none p a (suc n) none =
    let first : one_if (p a) ≡ 0 = ap one_if (none a (omega arith)) in
    let rest = tally-none p (a + 1) n (λ i from. none i (omega arith)) in
    omega (arith, first, rest)

-- a word is the number of its bits
word_of_bits : (word : ℕ) → word < 2 ^ 64 → mask_l (map (λ j. eqb (bit_at word j) 1) (range_with_len 0 64)) ≡ word
word_of_bits word fits =
    let bits = map (λ j. eqb (bit_at word j) 1) (range_with_len 0 64) in
    let long : length bits ≡ 64 = length-map-range_with_len (λ j. eqb (bit_at word j) 1) 0 64 in
    same_from_bits_below 64 (mask_l bits) word (subst (λ (n : ℕ). mask_l bits < 2 ^ n) long (mask_l-lt bits)) fits
    (λ i below. bit_mask_l bits i
    ∙ ap (λ (b : Bool). cond b 1 0) (get_or-map-range_with_len (λ j. eqb (bit_at word j) 1) 0 64 i i false below (omega arith))
    ∙ as_bit (bit_at word i) (bit_at-lt word i))

ones_of_word : (word : ℕ) → word < 2 ^ 64 → count_ones word ≡ tally (λ j. eqb (bit_at word j) 1) 0 64
ones_of_word word fits =
    ap count_ones (sym (word_of_bits word fits))
    ∙ ones-mask_l (λ j. eqb (bit_at word j) 1) (range_with_len 0 64)
    ∙ count-range (λ j. eqb (bit_at word j) 1) 0 64

none_empty : (i : ℕ) → is_set [] i ≡ false
none_empty i = is_set_past [] i (omega arith)

in_first : (word : ℕ) (words : List ℕ) (i k : ℕ) → i < 64 → k ≡ i → eqb (bit_at word i) 1 ≡ is_set (word ∷ words) k
in_first word words i k below same =
    let index : k / 64 ≡ 0 = omega arith in
    let bit : k % 64 ≡ i = omega arith in
    sym (ap (λ (m : ℕ). eqb (bit_at (get_or (word ∷ words) m 0) (k % 64)) 1) index ∙ ap (λ (j : ℕ). eqb (bit_at word j) 1) bit)

in_rest : (word : ℕ) (words : List ℕ) (i k : ℕ) → k ≡ i + 64 → is_set words i ≡ is_set (word ∷ words) k
in_rest word words i k shift =
    let index : k / 64 ≡ suc (i / 64) = omega arith in
    let bit : k % 64 ≡ i % 64 = omega arith in
    sym (ap (λ (m : ℕ). eqb (bit_at (get_or (word ∷ words) m 0) (k % 64)) 1) index ∙ ap (λ (j : ℕ). eqb (bit_at (get_or words (i / 64) 0) j) 1) bit)

ones_of_words : (words : List ℕ) → ((k : ℕ) → get_or words k 0 < 2 ^ 64) → (n : ℕ) → n ≡ 64 * length words → sum_by count_ones words ≡ tally (is_set words) 0 n
ones_of_words [] fits n e = let none : n ≡ 0 = omega arith in subst (λ (m : ℕ). 0 ≡ tally (is_set []) 0 m) (sym none) (sym (tally-none (is_set []) 0 0 (λ i from. none_empty i)))
ones_of_words (word ∷ words) fits n e =
    sum_by-cons count_ones word words
    ∙ ap (λ (x : ℕ). x + sum_by count_ones words) (ones_of_word word (fits 0)
    ∙ tally-same (λ j. eqb (bit_at word j) 1) (is_set (word ∷ words)) 0 0 64 (λ i k from below shift. in_first word words i k below (omega arith)))
    ∙ ap (λ (x : ℕ). tally (is_set (word ∷ words)) 0 64 + x) (ones_of_words words (λ k. fits (suc k)) (n - 64) (omega arith)
    ∙ tally-same (is_set words) (is_set (word ∷ words)) 0 64 (n - 64) (λ i k from below shift. in_rest word words i k (omega arith)))
    ∙ sym (tally-split (is_set (word ∷ words)) 0 64 (n - 64) n (omega arith))

pub count_is : (words : List ℕ) (len : ℕ) → length words ≡ len / 64 + 1 → ((k : ℕ) → get_or words k 0 < 2 ^ 64) → ((i : ℕ) → len ≤ i → is_set words i ≡ false) → sum_by count_ones words ≡ count_by (λ b. b) (booleans words len)
count_is words len long fits none =
    let n = 64 * length words in
    let rest = tally-none (is_set words) (0 + len) (n - len) (λ i from. none i (omega arith)) in
    ones_of_words words fits n refl
    ∙ tally-split (is_set words) 0 len (n - len) n (omega arith)
    ∙ ap (λ (x : ℕ). tally (is_set words) 0 len + x) rest
    ∙ (let e : tally (is_set words) 0 len + 0 ≡ tally (is_set words) 0 len = omega arith in e)
    ∙ sym (count-map-range (is_set words) 0 len)
