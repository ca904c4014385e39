-- Signed numbers by their bits: the tests that the kernels make are the plain ones.
use Rattle.std.proofs.Common.{◌≡◌, ◌+◌, ◌-◌, ◌*◌, ◌%◌, ◌^◌, true, false, eqb, not, ◌||◌, ap, ◌∙◌, arith, w32, w64}
use Rattle.std.proofs.lemmas.Bool.{lt-ltb, ltb-true, not-false}
use Rattle.std.proofs.lemmas.Int.{ints, to_z-of_z, wrapping_add-bits, wrapping_sub-bits, wrapping_mul-bits, int_wrap_fits, fits_signed_mul}
use Rattle.std.proofs.Math.Facts.{Fits-of_z, sfits_widen}
use Rattle.std.specs.Int.{int_wrap}
use Rattle.std.specs.Int.RustNames.{int_lt, int_le}
use Rattle.std.specs.Ordering.{int_eq}
use lib.IntN.{ℤ, pos, negsuc, ◌+ℤ◌, ◌-ℤ◌, ◌*ℤ◌}
use mathlib.Core.Bool.{beq}
use mir.Syntax.{Width, w8, w16, w128}
use mir.Val.{bits, hbits, of_z, to_z, SFits}
use Rattle.num_folds.proofs.Totals.{abs_of_fitting}
use Rattle.num_kernels.specs.Numbers.{holds}

pub holds_fits : (w : Width) (z : ℤ) → holds w z ≡ true → SFits w z
holds_fits w (pos n) e = record { sfits = ltb-true n (2 ^ hbits w) e }
holds_fits w (negsuc n) e = record { sfits = ltb-true n (2 ^ hbits w) e }

pub fits_holds : (w : Width) (z : ℤ) → SFits w z → holds w z ≡ true
fits_holds w (pos n) f = lt-ltb n (2 ^ hbits w) f.sfits
fits_holds w (negsuc n) f = lt-ltb n (2 ^ hbits w) f.sfits

pub not_less : (x y : ℤ) → not (int_lt x y) ≡ int_le y x
not_less x y = grind (arith, ints)

module _ (w : Width) (x y : ℤ) (fx : SFits w x) (fy : SFits w y) where
  pub le_is : int_le (to_z w (of_z w x)) (to_z w (of_z w y)) ≡ int_le x y
  le_is = ap (λ (z : ℤ). int_le z (to_z w (of_z w y))) (to_z-of_z w x fx) ∙ ap (int_le x) (to_z-of_z w y fy)

  -- the wrapping operations give the exact result where it fits
  pub sum_value : not (holds w (x +ℤ y)) ≡ false → to_z w ((of_z w x + of_z w y) % 2 ^ bits w) ≡ x +ℤ y
  sum_value h = wrapping_add-bits w (of_z w x) (of_z w y) (Fits-of_z fx).fits (Fits-of_z fy).fits
      ∙ ap (λ (z : ℤ). int_wrap w (z +ℤ to_z w (of_z w y))) (to_z-of_z w x fx) ∙ ap (λ (z : ℤ). int_wrap w (x +ℤ z)) (to_z-of_z w y fy)
      ∙ int_wrap_fits w (x +ℤ y) (holds_fits w (x +ℤ y) (not-false _ h))

  pub difference_value : not (holds w (x -ℤ y)) ≡ false → to_z w ((of_z w x + (2 ^ bits w - of_z w y)) % 2 ^ bits w) ≡ x -ℤ y
  difference_value h = wrapping_sub-bits w (of_z w x) (of_z w y) (Fits-of_z fx).fits (Fits-of_z fy).fits
      ∙ ap (λ (z : ℤ). int_wrap w (z -ℤ to_z w (of_z w y))) (to_z-of_z w x fx) ∙ ap (λ (z : ℤ). int_wrap w (x -ℤ z)) (to_z-of_z w y fy)
      ∙ int_wrap_fits w (x -ℤ y) (holds_fits w (x -ℤ y) (not-false _ h))

  pub product_value : not (holds w (x *ℤ y)) ≡ false → to_z w ((of_z w x * of_z w y) % 2 ^ bits w) ≡ x *ℤ y
  product_value h = wrapping_mul-bits w (of_z w x) (of_z w y) (Fits-of_z fx).fits (Fits-of_z fy).fits
      ∙ ap (λ (z : ℤ). int_wrap w (z *ℤ to_z w (of_z w y))) (to_z-of_z w x fx) ∙ ap (λ (z : ℤ). int_wrap w (x *ℤ z)) (to_z-of_z w y fy)
      ∙ int_wrap_fits w (x *ℤ y) (holds_fits w (x *ℤ y) (not-false _ h))

pub eq_is : (w : Width) (x y : ℤ) → SFits w x → SFits w y → eqb (of_z w x) (of_z w y) ≡ int_eq x y
eq_is w8 x y fx fy = grind (arith, ints)
eq_is w16 x y fx fy = grind (arith, ints)
eq_is w32 x y fx fy = grind (arith, ints)
eq_is w64 x y fx fy = grind (arith, ints)
eq_is w128 x y fx fy = grind (arith, ints)

-- the signs tell of an overflow
pub sum_overflows : (w : Width) (x y : ℤ) → SFits w x → SFits w y
    → not (beq (int_lt (to_z w (of_z w y)) (to_z w 0)) (int_lt (to_z w ((of_z w x + of_z w y) % 2 ^ bits w)) (to_z w (of_z w x)))) ≡ not (holds w (x +ℤ y))
sum_overflows w8 x y fx fy = grind (arith, ints)
sum_overflows w16 x y fx fy = grind (arith, ints)
sum_overflows w32 x y fx fy = grind (arith, ints)
sum_overflows w64 x y fx fy = grind (arith, ints)
sum_overflows w128 x y fx fy = grind (arith, ints)

pub difference_overflows : (w : Width) (x y : ℤ) → SFits w x → SFits w y
    → not (beq (int_lt (to_z w (of_z w y)) (to_z w 0)) (int_lt (to_z w (of_z w x)) (to_z w ((of_z w x + (2 ^ bits w - of_z w y)) % 2 ^ bits w)))) ≡ not (holds w (x -ℤ y))
difference_overflows w8 x y fx fy = grind (arith, ints)
difference_overflows w16 x y fx fy = grind (arith, ints)
difference_overflows w32 x y fx fy = grind (arith, ints)
difference_overflows w64 x y fx fy = grind (arith, ints)
difference_overflows w128 x y fx fy = grind (arith, ints)

-- a number outside the width, by two comparisons
pub outside_32 : (z : ℤ) → (int_lt z (negsuc 2147483647) || int_lt (pos 2147483647) z) ≡ not (holds w32 z)
outside_32 z = grind (arith, ints)

module _ (x y : ℤ) (fx : SFits w32 x) (fy : SFits w32 y) where
  wide_product : to_z w64 ((of_z w64 (to_z w32 (of_z w32 x)) * of_z w64 (to_z w32 (of_z w32 y))) % 2 ^ 64) ≡ x *ℤ y
  wide_product =
      ap (λ (z : ℤ). to_z w64 ((of_z w64 z * of_z w64 (to_z w32 (of_z w32 y))) % 2 ^ 64)) (to_z-of_z w32 x fx)
      ∙ ap (λ (z : ℤ). to_z w64 ((of_z w64 x * of_z w64 z) % 2 ^ 64)) (to_z-of_z w32 y fy)
      ∙ product_value w64 x y (sfits_widen tt fx) (sfits_widen tt fy)
      (ap not (fits_holds w64 (x *ℤ y) (fits_signed_mul w64 x y (2 ^ 31) (2 ^ 31) (abs_of_fitting w32 x fx) (abs_of_fitting w32 y fy) (omega arith))))

  pub product_fails_32 : (int_lt (to_z w64 ((of_z w64 (to_z w32 (of_z w32 x)) * of_z w64 (to_z w32 (of_z w32 y))) % 2 ^ 64)) (negsuc 2147483647)
      || int_lt (pos 2147483647) (to_z w64 ((of_z w64 (to_z w32 (of_z w32 x)) * of_z w64 (to_z w32 (of_z w32 y))) % 2 ^ 64))) ≡ not (holds w32 (x *ℤ y))
  product_fails_32 = ap (λ (z : ℤ). int_lt z (negsuc 2147483647) || int_lt (pos 2147483647) z) wide_product ∙ outside_32 (x *ℤ y)
