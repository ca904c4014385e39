-- The lanes that a step over columns marks, for every width.
use Rattle.std.proofs.Common.{ℕ, ◌+◌, ◌-◌, ◌%◌, ◌^◌, ◌<◌, ◌≤◌, Bool, cond, eqb, List, map, replicate, ◌∙◌, arith, bit_and, bit_or}
use Rattle.std.specs.Int.RustNames.{bit_xor, int_lt}
use Rattle.std.specs.Ordering.{int_eq}
use lib.IntN.{ℤ}
use lib.Lanes.{zip2, mask_l, top, chunk}
use mir.Syntax.{Width}
use mir.Val.{bits, hbits, of_z, to_z}
use Rattle.num_folds.specs.Lanes.{at}
use Rattle.num_folds.proofs.Lanes.{Lane, lane_bit, lane_loaded, lane_splat, lane_zip, lt_is, and_bits}
use Rattle.num_kernels.specs.Numbers.{add, sub, div, mod_of, fails}
use Rattle.num_kernels.specs.Steps.{CanLoad, MarksPairs}
use Rattle.num_kernels.proofs.Bits.{or_bits, xor_bits}
use Rattle.num_kernels.proofs.Numbers.{eq_is, sum_overflows, difference_overflows}
use Rattle.num_kernels.proofs.Quotients.{quotient_fails_is, remainder_fails_is}

-- the lanes that are loaded from a column
abbrev pub lanes_of : Width → ℕ → ℕ → List ℤ → List ℕ
lanes_of w n start xs = map (of_z w) (chunk start n xs)

-- the bits of a comparison's mask
abbrev pub bits_where : Width → (ℕ → ℕ → Bool) → List ℕ → List ℕ → ℕ
bits_where w t xs ys = mask_l (map (top (hbits w)) (zip2 (λ x y. cond (t x y) (2 ^ bits w - 1) 0) xs ys)) % 2 ^ 64

abbrev pub is_less : Width → ℕ → ℕ → Bool
is_less w a b = int_lt (to_z w a) (to_z w b)

module _ (w : Width) {n start : ℕ} {left right : List ℤ} (load : CanLoad w n start left right) where
  few : n ≤ 64
  few = let short = load.few in omega arith

  module _ {k : ℕ} (below : k < n) where
    pub left_lane : Lane n (lanes_of w n start left) k (of_z w (at left (start + k)))
    left_lane = lane_loaded below w left start load.room_left

    pub right_lane : Lane n (lanes_of w n start right) k (of_z w (at right (start + k)))
    right_lane = lane_loaded below w right start load.room_right

  pub equal_marked : MarksPairs int_eq n start left right (bits_where w eqb (lanes_of w n start left) (lanes_of w n start right))
  equal_marked = λ k below. lane_bit below w eqb (left_lane below) (right_lane below) few ∙ eq_is w _ _ (load.fit_left k below) (load.fit_right k below)

  pub less_marked : MarksPairs int_lt n start left right (bits_where w (is_less w) (lanes_of w n start left) (lanes_of w n start right))
  less_marked = λ k below. lane_bit below w (is_less w) (left_lane below) (right_lane below) few ∙ lt_is w _ _ (load.fit_left k below) (load.fit_right k below)

  pub sums_marked : MarksPairs (fails w add) n start left right
      (bit_xor (bits_where w (is_less w) (lanes_of w n start right) (replicate n 0))
      (bits_where w (is_less w) (zip2 (λ a b. (a + b) % 2 ^ bits w) (lanes_of w n start left) (lanes_of w n start right)) (lanes_of w n start left)))
  sums_marked = λ k below.
      xor_bits _ _ k (lane_bit below w (is_less w) (right_lane below) (lane_splat below 0) few)
      (lane_bit below w (is_less w) (lane_zip below (λ a b. (a + b) % 2 ^ bits w) (left_lane below) (right_lane below)) (left_lane below) few)
      ∙ sum_overflows w _ _ (load.fit_left k below) (load.fit_right k below)

  pub differences_marked : MarksPairs (fails w sub) n start left right
      (bit_xor (bits_where w (is_less w) (lanes_of w n start right) (replicate n 0))
      (bits_where w (is_less w) (lanes_of w n start left) (zip2 (λ a b. (a + (2 ^ bits w - b)) % 2 ^ bits w) (lanes_of w n start left) (lanes_of w n start right))))
  differences_marked = λ k below.
      xor_bits _ _ k (lane_bit below w (is_less w) (right_lane below) (lane_splat below 0) few)
      (lane_bit below w (is_less w) (left_lane below) (lane_zip below (λ a b. (a + (2 ^ bits w - b)) % 2 ^ bits w) (left_lane below) (right_lane below)) few)
      ∙ difference_overflows w _ _ (load.fit_left k below) (load.fit_right k below)

  pub quotients_marked : MarksPairs (fails w div) n start left right
      (bit_or (bits_where w eqb (lanes_of w n start right) (replicate n 0))
      (bit_and (bits_where w eqb (lanes_of w n start left) (replicate n (2 ^ hbits w))) (bits_where w eqb (lanes_of w n start right) (replicate n (2 ^ bits w - 1)))))
  quotients_marked = λ k below.
      or_bits _ _ k (lane_bit below w eqb (right_lane below) (lane_splat below 0) few)
      (and_bits _ _ k (lane_bit below w eqb (left_lane below) (lane_splat below (2 ^ hbits w)) few) (lane_bit below w eqb (right_lane below) (lane_splat below (2 ^ bits w - 1)) few))
      ∙ quotient_fails_is w _ _ (load.fit_left k below) (load.fit_right k below)

  pub remainders_marked : MarksPairs (fails w mod_of) n start left right (bits_where w eqb (lanes_of w n start right) (replicate n 0))
  remainders_marked = λ k below. lane_bit below w eqb (right_lane below) (lane_splat below 0) few ∙ remainder_fails_is w _ _ (load.fit_left k below) (load.fit_right k below)
