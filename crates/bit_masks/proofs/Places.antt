-- The places of a list of words.
use Rattle.std.proofs.Common.{◌≡◌, ◌≢◌, ℕ, zero, suc, ◌+◌, ◌-◌, ◌/◌, ◌%◌, ◌^◌, ◌<◌, ◌≤◌, Bool, true, false, cond, eqb, ltb, not, ◌&&◌, ◌||◌, min, max, List, length, get_or, set, replicate, map, refl, sym, ap, subst, ◌∙◌, ⊎_elim, arith, bit_and, bit_or, length-set, Fits}
use Rattle.std.proofs.lemmas.Bool.{cases_eq, cases_lt, lt-ltb, le-ltb}
use Rattle.std.proofs.lemmas.List.{get_or-set_same, get_or-set_other, get_or_past, get_or-replicate, get_or-map, length-map}
use Rattle.std.proofs.lemmas.List.FromFn.{length-map-range_with_len, get_or-map-range_with_len, fill_by_all}
use Rattle.std.proofs.lemmas.Nat.Bits.{bit_at-zero, bit_at-lt, bit_at_and, bit_at_or, bit_at_not, bit_at_ones, bit_at_ones_above}
use Rattle.std.proofs.lemmas.Simd.{length-zip2, get_or-zip2, length-replicate}
use lib.Lanes.{zip2}
use Rattle.std.specs.Int.{bit_at, bit_not}
use mir.Syntax.{w64}
use Rattle.bit_masks.specs.Masks.{is_set, booleans}

pub length-booleans : (words : List ℕ) (len : ℕ) → length (booleans words len) ≡ len
length-booleans words len = length-map-range_with_len (is_set words) 0 len

-- a mask is as long as it says
pub length_of : (words : List ℕ) (len : ℕ) (mask : List Bool) → booleans words len ≡ mask → length mask ≡ len
length_of words len mask is = ap length (sym is) ∙ length-booleans words len

pub get_or-booleans : (words : List ℕ) (len i : ℕ) → i < len → get_or (booleans words len) i false ≡ is_set words i
get_or-booleans words len i within = get_or-map-range_with_len (is_set words) 0 len i i false within (omega arith)

-- the booleans of the words are a list that is as long and has them at each place
pub booleans_are : (words : List ℕ) (len : ℕ) (xs : List Bool) → length xs ≡ len → ((i : ℕ) → i < len → get_or xs i false ≡ is_set words i) → booleans words len ≡ xs
booleans_are words len xs long same = sym (fill_by_all (is_set words) xs len false long same)

pub is_set_past : (words : List ℕ) (i : ℕ) → length words ≤ i / 64 → is_set words i ≡ false
is_set_past words i past = ap (λ (word : ℕ). eqb (bit_at word (i % 64)) 1) (get_or_past words (i / 64) 0 past) ∙ ap (λ (bit : ℕ). eqb bit 1) (bit_at-zero (i % 64))

-- the words of a slice fit
pub words_fit : (slice words : List ℕ) → slice ≡ words → ((k : ℕ) → Fits w64 (get_or slice k 0)) → (k : ℕ) → get_or words k 0 < 2 ^ 64
words_fit slice words same fits k = subst (λ (ws : List ℕ). get_or ws k 0 < 2 ^ 64) same (fits k).fits

-- bits with a one-word change
pub is_set_here : (words : List ℕ) (index word i : ℕ) → index < length words → i / 64 ≡ index → is_set (set words index word) i ≡ eqb (bit_at word (i % 64)) 1
is_set_here words index word i within same = ap (λ (w : ℕ). eqb (bit_at w (i % 64)) 1) (ap (λ (k : ℕ). get_or (set words index word) k 0) same ∙ get_or-set_same words index word 0 within)

pub is_set_elsewhere : (words : List ℕ) (index word i : ℕ) → i / 64 ≢ index → is_set (set words index word) i ≡ is_set words i
is_set_elsewhere words index word i other = ap (λ (w : ℕ). eqb (bit_at w (i % 64)) 1) (get_or-set_other words index (i / 64) word 0 other)

pub one_is : (value : Bool) → eqb (cond value 1 0) 1 ≡ value
one_is true = refl
one_is false = refl

-- a bit is 1 or 0 by whether it is 1
pub as_bit : (b : ℕ) → b < 2 → cond (eqb b 1) 1 0 ≡ b
as_bit zero p = refl
as_bit (suc zero) p = refl
as_bit (suc (suc b)) p = absurd (omega arith)

-- one bit of one word changed
module _ (words : List ℕ) (place word : ℕ) (within : place / 64 < length words)
    (others : (j : ℕ) → j < 64 → j ≢ place % 64 → bit_at word j ≡ bit_at (get_or words (place / 64) 0) j) where
  pub is_set_kept : (i : ℕ) → i ≢ place → is_set (set words (place / 64) word) i ≡ is_set words i
  is_set_kept i differs = ⊎_elim
      (λ (same : i / 64 ≡ place / 64). is_set_here words (place / 64) word i within same
      ∙ ap (λ (bit : ℕ). eqb bit 1) (others (i % 64) (omega arith) (λ e. differs (omega arith)))
      ∙ ap (λ (k : ℕ). eqb (bit_at (get_or words k 0) (i % 64)) 1) (sym same))
      (λ (other : i / 64 ≢ place / 64). is_set_elsewhere words (place / 64) word i other)
      (cases_eq (i / 64) (place / 64))

  pub booleans_set : (len : ℕ) (value : Bool) → place < len → bit_at word (place % 64) ≡ cond value 1 0 → booleans (set words (place / 64) word) len ≡ set (booleans words len) place value
  booleans_set len value inside bit = booleans_are (set words (place / 64) word) len (set (booleans words len) place value) (length-set (booleans words len) place value ∙ length-booleans words len)
      (λ i below. ⊎_elim
      (λ (same : i ≡ place). ap (λ (k : ℕ). get_or (set (booleans words len) place value) k false) same
      ∙ get_or-set_same (booleans words len) place value false (let long = length-booleans words len in omega arith)
      ∙ sym (is_set_here words (place / 64) word i within (ap (λ (k : ℕ). k / 64) same) ∙ ap (λ (k : ℕ). eqb (bit_at word (k % 64)) 1) same ∙ ap (λ (b : ℕ). eqb b 1) bit ∙ one_is value))
      (λ (other : i ≢ place). get_or-set_other (booleans words len) place i value false other ∙ get_or-booleans words len i below ∙ sym (is_set_kept i other))
      (cases_eq i place))

-- a word that `new` fills
filled_bit : (value : Bool) (j : ℕ) → j < 64 → eqb (bit_at (cond value (2 ^ 64 - 1) 0) j) 1 ≡ value
filled_bit true j below = ap (λ (bit : ℕ). eqb bit 1) (bit_at_ones 64 j below)
filled_bit false j below = ap (λ (bit : ℕ). eqb bit 1) (bit_at-zero j)

-- the least of two bits is 1 where both are
bit_both : (a b : ℕ) → a < 2 → b < 2 → eqb (min a b) 1 ≡ (eqb a 1 && eqb b 1)
bit_both zero b p q = ap (λ (m : ℕ). eqb m 1) (let e : min 0 b ≡ 0 = omega arith in e)
bit_both (suc zero) zero p q = refl
bit_both (suc zero) (suc zero) p q = refl
bit_both (suc zero) (suc (suc b)) p q = absurd (omega arith)
bit_both (suc (suc a)) b p q = absurd (omega arith)

bit_either : (a b : ℕ) → a < 2 → b < 2 → eqb (max a b) 1 ≡ (eqb a 1 || eqb b 1)
bit_either zero zero p q = refl
bit_either zero (suc zero) p q = refl
bit_either zero (suc (suc b)) p q = absurd (omega arith)
bit_either (suc zero) zero p q = refl
bit_either (suc zero) (suc zero) p q = refl
bit_either (suc zero) (suc (suc b)) p q = absurd (omega arith)
bit_either (suc (suc a)) b p q = absurd (omega arith)

bit_other : (a : ℕ) → a < 2 → eqb (1 - a) 1 ≡ not (eqb a 1)
bit_other zero p = refl
bit_other (suc zero) p = refl
bit_other (suc (suc a)) p = absurd (omega arith)

pub bit_of_and : (a b j : ℕ) → eqb (bit_at (bit_and a b) j) 1 ≡ (eqb (bit_at a j) 1 && eqb (bit_at b j) 1)
bit_of_and a b j = ap (λ (bit : ℕ). eqb bit 1) (bit_at_and a b j) ∙ bit_both (bit_at a j) (bit_at b j) (bit_at-lt a j) (bit_at-lt b j)

pub bit_of_or : (a b j : ℕ) → eqb (bit_at (bit_or a b) j) 1 ≡ (eqb (bit_at a j) 1 || eqb (bit_at b j) 1)
bit_of_or a b j = ap (λ (bit : ℕ). eqb bit 1) (bit_at_or a b j) ∙ bit_either (bit_at a j) (bit_at b j) (bit_at-lt a j) (bit_at-lt b j)

pub bit_of_not : (a j : ℕ) → a < 2 ^ 64 → j < 64 → eqb (bit_at (bit_not w64 a) j) 1 ≡ not (eqb (bit_at a j) 1)
bit_of_not a j fits below = ap (λ (bit : ℕ). eqb bit 1) (bit_at_not w64 a j fits below) ∙ bit_other (bit_at a j) (bit_at-lt a j)

bit_of_low_ones : (k j : ℕ) → eqb (bit_at (2 ^ k - 1) j) 1 ≡ ltb j k
bit_of_low_ones k j = ⊎_elim
    (λ (below : j < k). ap (λ (bit : ℕ). eqb bit 1) (bit_at_ones k j below) ∙ sym (lt-ltb j k below))
    (λ (above : k ≤ j). ap (λ (bit : ℕ). eqb bit 1) (bit_at_ones_above k j above) ∙ sym (le-ltb j k above))
    (cases_lt j k)

-- the lowest bits of a word
pub bit_of_lowest : (a k j : ℕ) → eqb (bit_at (bit_and a (2 ^ k - 1)) j) 1 ≡ (eqb (bit_at a j) 1 && ltb j k)
bit_of_lowest a k j = bit_of_and a (2 ^ k - 1) j ∙ ap (λ (b : Bool). eqb (bit_at a j) 1 && b) (bit_of_low_ones k j)

pub and_true : (b : Bool) → (b && true) ≡ b
and_true true = refl
and_true false = refl

pub and_false : (b : Bool) → (b && false) ≡ false
and_false true = refl
and_false false = refl

-- the words with the last one cut to `len` places
abbrev pub cut_words : List ℕ → ℕ → List ℕ
cut_words words len = set words (len / 64) (bit_and (get_or words (len / 64) 0) (2 ^ (len % 64) - 1))

-- they come of the last word that was read and of as many ones
pub cut_is : (had words : List ℕ) (len word ones : ℕ) → had ≡ words → word ≡ get_or words (len / 64) 0 → ones ≡ 2 ^ (len % 64) - 1 → set had (len / 64) (bit_and word ones) ≡ cut_words words len
cut_is had words len word ones same read as_many =
    ap (λ (ws : List ℕ). set ws (len / 64) (bit_and word ones)) same
    ∙ ap (λ (w : ℕ). set words (len / 64) (bit_and w ones)) read
    ∙ ap (λ (w : ℕ). set words (len / 64) (bit_and (get_or words (len / 64) 0) w)) as_many

module _ (words : List ℕ) (len : ℕ) (long : length words ≡ len / 64 + 1) where
  pub is_set_cut : (i : ℕ) → i < len → is_set (cut_words words len) i ≡ is_set words i
  is_set_cut i inside = ⊎_elim
      (λ (same : i / 64 ≡ len / 64). is_set_here words (len / 64) _ i (omega arith) same
      ∙ bit_of_lowest (get_or words (len / 64) 0) (len % 64) (i % 64)
      ∙ ap (λ (b : Bool). eqb (bit_at (get_or words (len / 64) 0) (i % 64)) 1 && b) (lt-ltb (i % 64) (len % 64) (omega arith))
      ∙ and_true _
      ∙ ap (λ (k : ℕ). eqb (bit_at (get_or words k 0) (i % 64)) 1) (sym same))
      (λ (other : i / 64 ≢ len / 64). is_set_elsewhere words (len / 64) _ i other)
      (cases_eq (i / 64) (len / 64))

  pub none_past_cut : (i : ℕ) → len ≤ i → is_set (cut_words words len) i ≡ false
  none_past_cut i past = ⊎_elim
      (λ (same : i / 64 ≡ len / 64). is_set_here words (len / 64) _ i (omega arith) same
      ∙ bit_of_lowest (get_or words (len / 64) 0) (len % 64) (i % 64)
      ∙ ap (λ (b : Bool). eqb (bit_at (get_or words (len / 64) 0) (i % 64)) 1 && b) (le-ltb (i % 64) (len % 64) (omega arith))
      ∙ and_false _)
      (λ (other : i / 64 ≢ len / 64). is_set_past (cut_words words len) i (let e = length-set words (len / 64) (bit_and (get_or words (len / 64) 0) (2 ^ (len % 64) - 1)) in omega arith))
      (cases_eq (i / 64) (len / 64))

-- words that an operation on bits makes of two lists of words
module _ (op : Bool → Bool → Bool) (f : ℕ → ℕ → ℕ) (left right made : List ℕ) (len : ℕ)
    (bits : (a b j : ℕ) → eqb (bit_at (f a b) j) 1 ≡ op (eqb (bit_at a j) 1) (eqb (bit_at b j) 1))
    (neither : op false false ≡ false)
    (long : length left ≡ len / 64 + 1)
    (same_length : length made ≡ length left)
    (each : (k : ℕ) → k < length left → get_or made k 0 ≡ f (get_or left k 0) (get_or right k 0)) where
  is_set_combined : (i : ℕ) → i / 64 < length left → is_set made i ≡ op (is_set left i) (is_set right i)
  is_set_combined i within = ap (λ (w : ℕ). eqb (bit_at w (i % 64)) 1) (each (i / 64) within) ∙ bits _ _ (i % 64)

  none_past_combined : ((i : ℕ) → len ≤ i → is_set left i ≡ false) → ((i : ℕ) → len ≤ i → is_set right i ≡ false) → (i : ℕ) → len ≤ i → is_set made i ≡ false
  none_past_combined none_left none_right i past = ⊎_elim
      (λ (within : i / 64 < length left). is_set_combined i within ∙ ap (λ (b : Bool). op b (is_set right i)) (none_left i past) ∙ ap (op false) (none_right i past) ∙ neither)
      (λ (beyond : length left ≤ i / 64). is_set_past made i (omega arith))
      (cases_lt (i / 64) (length left))

  booleans_combined : booleans made len ≡ zip2 op (booleans left len) (booleans right len)
  booleans_combined =
      let long_left = length-booleans left len in
      let long_right = length-booleans right len in
      booleans_are made len (zip2 op (booleans left len) (booleans right len)) (length-zip2 op (booleans left len) (booleans right len) (long_left ∙ sym long_right) ∙ long_left)
      (λ i below. get_or-zip2 op (booleans left len) (booleans right len) i false false false (omega arith) (omega arith)
      ∙ ap (λ (b : Bool). op b (get_or (booleans right len) i false)) (get_or-booleans left len i below)
      ∙ ap (op (is_set left i)) (get_or-booleans right len i below)
      ∙ sym (is_set_combined i (omega arith)))

  -- the masks that the words stand for, of which none has a place past the last
  pub words_combined : (other_len : ℕ) → len ≡ other_len → ((i : ℕ) → len ≤ i → is_set left i ≡ false) → ((i : ℕ) → other_len ≤ i → is_set right i ≡ false)
      → (length made ≡ len / 64 + 1) × ((i : ℕ) → len ≤ i → is_set made i ≡ false)
  words_combined other_len same none_left none_right = (same_length ∙ long, none_past_combined none_left (λ i past. none_right i (omega arith)))

  pub masks_combined : (other_len : ℕ) (mask other : List Bool) → len ≡ other_len → booleans left len ≡ mask → booleans right other_len ≡ other → booleans made len ≡ zip2 op mask other
  masks_combined other_len mask other same mask_is other_is =
      booleans_combined
      ∙ ap (λ (n : ℕ). zip2 op (booleans left len) (booleans right n)) same
      ∙ ap (λ (xs : List Bool). zip2 op xs (booleans right other_len)) mask_is
      ∙ ap (zip2 op mask) other_is

pub booleans_flipped : (words made : List ℕ) (len : ℕ) → length words ≡ len / 64 + 1 → (same_length : length made ≡ length words) → ((k : ℕ) → k < length words → get_or words k 0 < 2 ^ 64)
    → ((k : ℕ) → k < length words → get_or made k 0 ≡ bit_not w64 (get_or words k 0)) → booleans (cut_words made len) len ≡ map not (booleans words len)
booleans_flipped words made len long same_length fits each = booleans_are _ len (map not (booleans words len)) (length-map (booleans words len) not ∙ length-booleans words len)
    (λ i below. get_or-map not (booleans words len) i false false (let e = length-booleans words len in omega arith)
    ∙ ap not (get_or-booleans words len i below)
    ∙ sym (bit_of_not (get_or words (i / 64) 0) (i % 64) (fits (i / 64) (omega arith)) (omega arith))
    ∙ ap (λ (w : ℕ). eqb (bit_at w (i % 64)) 1) (sym (each (i / 64) (omega arith)))
    ∙ sym (is_set_cut made len (same_length ∙ long) i below))

-- the words that `new` makes
pub booleans_filled : (len : ℕ) (value : Bool) → booleans (cut_words (replicate (len / 64 + 1) (cond value (2 ^ 64 - 1) 0)) len) len ≡ replicate len value
booleans_filled len value =
    let words = replicate (len / 64 + 1) (cond value (2 ^ 64 - 1) 0) in
    booleans_are _ len (replicate len value) (length-replicate len value)
    (λ i below. get_or-replicate len i value false below
    ∙ sym (filled_bit value (i % 64) (omega arith))
    ∙ ap (λ (w : ℕ). eqb (bit_at w (i % 64)) 1) (sym (get_or-replicate (len / 64 + 1) (i / 64) (cond value (2 ^ 64 - 1) 0) 0 (omega arith)))
    ∙ sym (is_set_cut words len (length-replicate (len / 64 + 1) (cond value (2 ^ 64 - 1) 0)) i below))
