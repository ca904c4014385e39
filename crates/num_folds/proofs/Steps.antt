-- What holds of 4, 8 and 16 lanes, and of the bits of a mask's part.
use Rattle.std.proofs.Common.{◌≡◌, ℕ, ◌+◌, ◌%◌, ◌^◌, ◌<◌, ◌≤◌, ◌⊎◌, ⊎_elim, Bool, false, eqb, ◌&&◌, List, length, get_or, take, drop, sym, ap, ◌∙◌, subst, arith, bit_and}
use Rattle.std.proofs.lemmas.Nat.{and_le_l}
use Rattle.std.proofs.lemmas.Simd.{bit_mask_l, mask_l-lt, get_or-chunk, length-chunk}
use Rattle.std.specs.Int.{bit_at}
use Rattle.bit_masks.proofs.Places.{bit_of_and, one_is}
use lib.Lanes.{mask_l, chunk}
use Rattle.num_folds.specs.Lanes.{set_at, IsLaneCount, Marks}
use Rattle.num_folds.specs.Totals.{both_at}

by_count : (P : ℕ → Type 0) (n : ℕ) → IsLaneCount n → P 4 → P 8 → P 16 → P n
by_count P n count four eight sixteen =
    ⊎_elim (λ (e : n ≡ 4). subst P (sym e) four) (λ (more : (n ≡ 8) ⊎ (n ≡ 16)). ⊎_elim (λ (e : n ≡ 8). subst P (sym e) eight) (λ (e : n ≡ 16). subst P (sym e) sixteen) more) count

module _ (n : ℕ) (count : IsLaneCount n) where
  pub some_lanes : 0 < n
  some_lanes = by_count (λ m. 0 < m) n count (omega arith) (omega arith) (omega arith)

  pub few_lanes : n ≤ 16
  few_lanes = by_count (λ m. m ≤ 16) n count (omega arith) (omega arith) (omega arith)

  pub in_one_word : (start : ℕ) → start % n ≡ 0 → start % 64 + n ≤ 64
  in_one_word start = by_count (λ m. start % m ≡ 0 → start % 64 + m ≤ 64) n count (λ e. omega arith) (λ e. omega arith) (λ e. omega arith)

  pub next_start : (start : ℕ) → start % n ≡ 0 → (start + n) % n ≡ 0
  next_start start = by_count (λ m. start % m ≡ 0 → (start + m) % m ≡ 0) n count (λ e. omega arith) (λ e. omega arith) (λ e. omega arith)

  pub short_bits : (bits : ℕ) → bits < 2 ^ n → bits < 2 ^ 32
  short_bits bits = by_count (λ m. bits < 2 ^ m → bits < 2 ^ 32) n count (λ e. omega arith) (λ e. omega arith) (λ e. omega arith)

-- the bits of a mask's part
module _ (valid : List Bool) (start n : ℕ) where
  pub part_bit : (k : ℕ) → k < n → eqb (bit_at (mask_l (take n (drop start valid))) k) 1 ≡ set_at valid (start + k)
  part_bit k below = ap (λ (b : ℕ). eqb b 1) (bit_mask_l (chunk start n valid) k) ∙ one_is (get_or (chunk start n valid) k false) ∙ get_or-chunk start n valid k false below

  pub part_short : start + n ≤ length valid → (other : ℕ) → bit_and (mask_l (take n (drop start valid))) other < 2 ^ n
  part_short room other =
      let below = subst (λ (m : ℕ). mask_l (chunk start n valid) < 2 ^ m) (length-chunk start n valid room) (mask_l-lt (chunk start n valid)) in
      let less = and_le_l (mask_l (chunk start n valid)) other in
      omega arith

  module _ (tests : ℕ) (p : ℕ → Bool) (marked : Marks n tests p) where
    pub both_bits : (k : ℕ) → k < n → eqb (bit_at (bit_and (mask_l (take n (drop start valid))) tests) k) 1 ≡ (set_at valid (start + k) && p k)
    both_bits k below = bit_of_and (mask_l (take n (drop start valid))) tests k ∙ ap (λ (b : Bool). b && eqb (bit_at tests k) 1) (part_bit k below) ∙ ap (λ (b : Bool). set_at valid (start + k) && b) (marked k below)

-- the bits of both masks' parts, put together
pub kept_bits : (valid keep : List Bool) (start n : ℕ) {a b : ℕ} → a ≡ mask_l (take n (drop start valid)) → b ≡ mask_l (take n (drop start keep)) → Marks n (bit_and a b) (λ k. both_at valid keep (start + k))
kept_bits valid keep start n {a} {b} a_is b_is k below =
    ap (λ (m : ℕ). eqb (bit_at (bit_and m b) k) 1) a_is
    ∙ both_bits valid start n b (λ k. set_at keep (start + k)) (λ k below. ap (λ (m : ℕ). eqb (bit_at m k) 1) b_is ∙ part_bit keep start n k below) k below
