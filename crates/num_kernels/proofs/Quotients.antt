-- Quotients and remainders of signed numbers, by their bits.
use Rattle.std.proofs.Common.{◌≡◌, ◌≢◌, ℕ, zero, suc, ◌-◌, ◌/◌, ◌^◌, ◌<◌, Bool, true, false, cond, eqb, not, ◌&&◌, ◌||◌, refl, sym, ap, ◌∙◌, subst, ⊎_elim, arith}
use Rattle.std.proofs.lemmas.Bool.{cases_eq, ne_eqb, eq-eqb, or_parts, not-false, both_ways, false_from_ne_true}
use Rattle.std.proofs.lemmas.Nat.{pow_pos}
use Rattle.std.proofs.lemmas.Int.{ints, to_z-of_z, quot_is, rem_is}
use Rattle.std.specs.Int.RustNames.{int_div, int_rem}
use Rattle.std.specs.Ordering.{int_eq}
use native.Mathlib.Nat.{div-le_self, div-lt_self, div-one}
use lib.IntN.{ℤ, pos, negsuc, neg_ℤ}
use lib.Signed.{mag, mag_rem}
use mir.Syntax.{Width}
use mir.Val.{bits, hbits, of_z, to_z, SFits}
use mir.ValLaws.{pow-bits}
use Rattle.bit_masks.proofs.Places.{and_false}
use Rattle.num_kernels.specs.Numbers.{holds}
use Rattle.num_kernels.proofs.Numbers.{fits_holds, holds_fits}

size_of_negated : (n : ℕ) → mag (neg_ℤ (pos n)) ≡ n - 1
size_of_negated zero = refl
size_of_negated (suc n) = omega arith

-- a quotient fits, but for that of the least number by -1
pub quotient_fits : (w : Width) (x y : ℤ) → SFits w x → SFits w y → (y ≡ negsuc 0 → x ≡ negsuc (2 ^ hbits w - 1) → ⊥) → SFits w (int_div x y)
quotient_fits w (pos a) (pos b) fx fy rest = record { sfits = omega (arith, fx.sfits, div-le_self a b) }
quotient_fits w (pos a) (negsuc b) fx fy rest = record { sfits = omega (arith, fx.sfits, div-le_self a (suc b), size_of_negated (a / suc b)) }
quotient_fits w (negsuc a) (pos b) fx fy rest = record { sfits = omega (arith, fx.sfits, div-le_self (suc a) b, size_of_negated (suc a / b)) }
quotient_fits w (negsuc a) (negsuc zero) fx fy rest = ⊎_elim
    (λ (same : a ≡ 2 ^ hbits w - 1). absurd (rest refl (ap negsuc same)))
    (λ (other : a ≢ 2 ^ hbits w - 1). record { sfits = omega (arith, fx.sfits, div-one (suc a)) })
    (cases_eq a (2 ^ hbits w - 1))
quotient_fits w (negsuc a) (negsuc (suc b)) fx fy rest = record { sfits = omega (arith, fx.sfits, div-lt_self {n = suc a} {k = suc (suc b)} (omega arith) (omega arith)) }

pub remainder_fits : (w : Width) (x y : ℤ) → SFits w x → SFits w (int_rem x y)
remainder_fits w x y fx = record { sfits = omega (arith, fx.sfits, mag_rem x y) }

zero_is : (w : Width) (y : ℤ) → SFits w y → eqb (of_z w y) 0 ≡ int_eq y (pos 0)
zero_is w (pos zero) fy = refl
zero_is w (pos (suc b)) fy = ne_eqb (suc b) 0 (λ e. absurd (omega arith)) ∙ (let none : false ≡ int_eq (pos (suc b)) (pos 0) = grind (arith, ints) in none)
zero_is w (negsuc b) fy = ne_eqb (2 ^ bits w - suc b) 0 (λ e. absurd (omega (arith, fy.sfits, pow-bits w)))

least_by_minus_one : (w : Width) (x y : ℤ) → SFits w x → SFits w y → of_z w x ≡ 2 ^ hbits w → of_z w y ≡ 2 ^ bits w - 1 → SFits w (int_div x y) → ⊥
least_by_minus_one w (pos a) y fx fy p q f = absurd (omega (arith, fx.sfits))
least_by_minus_one w (negsuc a) (pos b) fx fy p q f = absurd (omega (arith, fy.sfits, pow-bits w))
least_by_minus_one w (negsuc a) (negsuc zero) fx fy p q f = absurd (omega (arith, fx.sfits, f.sfits, div-one (suc a), pow-bits w))
least_by_minus_one w (negsuc a) (negsuc (suc b)) fx fy p q f = absurd (omega (arith, fy.sfits, pow-bits w))

or_false : (b : Bool) → b ≡ (b || not true)
or_false true = refl
or_false false = refl

module _ (w : Width) (x y : ℤ) (fx : SFits w x) (fy : SFits w y) where
  least_fails : (eqb (of_z w x) (2 ^ hbits w) && eqb (of_z w y) (2 ^ bits w - 1)) ≡ not (holds w (int_div x y))
  least_fails = ⊎_elim
      (λ (least : of_z w x ≡ 2 ^ hbits w). ⊎_elim
      (λ (minus_one : of_z w y ≡ 2 ^ bits w - 1).
      ap (λ (b : Bool). b && eqb (of_z w y) (2 ^ bits w - 1)) (eq-eqb _ _ least)
      ∙ eq-eqb _ _ minus_one
      ∙ sym (ap not (false_from_ne_true (holds w (int_div x y)) (λ h. least_by_minus_one w x y fx fy least minus_one (holds_fits w (int_div x y) h)))))
      (λ (other : of_z w y ≢ 2 ^ bits w - 1).
      ap (λ (b : Bool). eqb (of_z w x) (2 ^ hbits w) && b) (ne_eqb _ _ other)
      ∙ and_false _
      ∙ sym (ap not (fits_holds w (int_div x y) (quotient_fits w x y fx fy (λ e l. other (ap (of_z w) e))))))
      (cases_eq (of_z w y) (2 ^ bits w - 1)))
      (λ (other : of_z w x ≢ 2 ^ hbits w).
      ap (λ (b : Bool). b && eqb (of_z w y) (2 ^ bits w - 1)) (ne_eqb _ _ other)
      ∙ sym (ap not (fits_holds w (int_div x y) (quotient_fits w x y fx fy (λ e l. other (ap (of_z w) l ∙ least_bits))))))
      (cases_eq (of_z w x) (2 ^ hbits w))
    where
      least_bits : 2 ^ bits w - suc (2 ^ hbits w - 1) ≡ 2 ^ hbits w
      least_bits = omega (arith, pow-bits w, pow_pos (hbits w))

  pub quotient_fails_is : (eqb (of_z w y) 0 || (eqb (of_z w x) (2 ^ hbits w) && eqb (of_z w y) (2 ^ bits w - 1))) ≡ (int_eq y (pos 0) || not (holds w (int_div x y)))
  quotient_fails_is = ap (λ (b : Bool). b || (eqb (of_z w x) (2 ^ hbits w) && eqb (of_z w y) (2 ^ bits w - 1))) (zero_is w y fy) ∙ ap (λ (b : Bool). int_eq y (pos 0) || b) least_fails

  pub remainder_fails_is : eqb (of_z w y) 0 ≡ (int_eq y (pos 0) || not (holds w (int_rem x y)))
  remainder_fails_is = zero_is w y fy ∙ or_false (int_eq y (pos 0)) ∙ ap (λ (b : Bool). int_eq y (pos 0) || not b) (sym (fits_holds w (int_rem x y) (remainder_fits w x y fx)))

  pub divisor_is_not_zero : int_eq y (pos 0) ≡ false → 0 < of_z w y
  divisor_is_not_zero none = ⊎_elim (λ (is : of_z w y ≡ 0). absurd (both_ways (eqb (of_z w y) 0) (zero_is w y fy ∙ none) (eq-eqb (of_z w y) 0 is))) (λ (other : of_z w y ≢ 0). omega arith) (cases_eq (of_z w y) 0)

pos_is_not_negative : {n : ℕ} → pos n ≡ negsuc 0 → ⊥
pos_is_not_negative e = cc

by_one : (b : Bool) → cond {A = ℕ} b 1 1 ≡ 1
by_one true = refl
by_one false = refl

-- the lanes of a division, where a lane that is not fine divides 0 by 1
module _ (w : Width) (x y : ℤ) (fx : SFits w x) (fy : SFits w y) (one : 1 < 2 ^ hbits w) where
  zero_fits : SFits w (pos 0)
  zero_fits = record { sfits = omega (arith, one) }

  one_fits : SFits w (pos 1)
  one_fits = record { sfits = one }

  pub quotient_asks : (fine : Bool) → (fine ≡ true → (int_eq y (pos 0) || not (holds w (int_div x y))) ≡ false)
      → (0 < cond fine (of_z w y) 1) × SFits w (int_div (to_z w (cond fine (of_z w x) 0)) (to_z w (cond fine (of_z w y) 1)))
  quotient_asks true sound =
      let parts = or_parts (int_eq y (pos 0)) (not (holds w (int_div x y))) (sound refl) in (
        divisor_is_not_zero w x y fx fy parts.0,
        subst (λ (z : ℤ). SFits w (int_div z (to_z w (of_z w y)))) (sym (to_z-of_z w x fx))
            (subst (λ (z : ℤ). SFits w (int_div x z)) (sym (to_z-of_z w y fy)) (holds_fits w (int_div x y) (not-false _ parts.1))),
      )
  quotient_asks false sound = (
    omega arith,
    subst (λ (z : ℤ). SFits w (int_div z (to_z w 1))) (sym (to_z-of_z w (pos 0) zero_fits))
        (subst (λ (z : ℤ). SFits w (int_div (pos 0) z)) (sym (to_z-of_z w (pos 1) one_fits)) zero_fits),
  )

  pub quotient_value : (fine : Bool) → (fine ≡ true → (int_eq y (pos 0) || not (holds w (int_div x y))) ≡ false)
      → to_z w (of_z w (int_div (to_z w (cond fine (of_z w x) 0)) (to_z w (cond fine (of_z w y) 1)))) ≡ cond fine (int_div x y) (pos 0)
  quotient_value true sound =
      let parts = or_parts (int_eq y (pos 0)) (not (holds w (int_div x y))) (sound refl) in
      quot_is w x y fx fy (holds_fits w (int_div x y) (not-false _ parts.1))
  quotient_value false sound = quot_is w (pos 0) (pos 1) zero_fits one_fits zero_fits

  -- the divisor, with 1 in place of -1
  abbrev pub divisor_of : Bool → ℕ
  divisor_of fine = cond (eqb (cond fine (of_z w y) 1) (2 ^ bits w - 1)) 1 (cond fine (of_z w y) 1)

  minus_one : of_z w y ≡ 2 ^ bits w - 1 → y ≡ negsuc 0
  minus_one e = sym (to_z-of_z w y fy) ∙ ap (to_z w) e ∙ to_z-of_z w (negsuc 0) (record { sfits = omega (arith, one) })

  same_remainder : (a : ℤ) → int_rem a (pos 1) ≡ int_rem a (negsuc 0)
  same_remainder (pos a) = refl
  same_remainder (negsuc a) = refl

  one_divides : (a : ℤ) → SFits w a → SFits w (int_div a (pos 1))
  one_divides a fa = quotient_fits w a (pos 1) fa one_fits (λ e l. absurd (pos_is_not_negative e))

  pub remainder_asks : (fine : Bool) → (fine ≡ true → (int_eq y (pos 0) || not (holds w (int_rem x y))) ≡ false)
      → (0 < divisor_of fine) × SFits w (int_div (to_z w (cond fine (of_z w x) 0)) (to_z w (divisor_of fine)))
  remainder_asks true sound =
      let parts = or_parts (int_eq y (pos 0)) (not (holds w (int_rem x y))) (sound refl) in
      subst (λ (z : ℤ). (0 < divisor_of true) × SFits w (int_div z (to_z w (divisor_of true)))) (sym (to_z-of_z w x fx)) (⊎_elim
      (λ (is : of_z w y ≡ 2 ^ bits w - 1).
      subst (λ (b : Bool). (0 < cond b 1 (of_z w y)) × SFits w (int_div x (to_z w (cond b 1 (of_z w y))))) (sym (eq-eqb (of_z w y) (2 ^ bits w - 1) is))
      (omega arith, subst (λ (z : ℤ). SFits w (int_div x z)) (sym (to_z-of_z w (pos 1) one_fits)) (one_divides x fx)))
      (λ (other : of_z w y ≢ 2 ^ bits w - 1).
      subst (λ (b : Bool). (0 < cond b 1 (of_z w y)) × SFits w (int_div x (to_z w (cond b 1 (of_z w y))))) (sym (ne_eqb (of_z w y) (2 ^ bits w - 1) other))
      (divisor_is_not_zero w x y fx fy parts.0, subst (λ (z : ℤ). SFits w (int_div x z)) (sym (to_z-of_z w y fy)) (quotient_fits w x y fx fy (λ e l. other (ap (of_z w) e)))))
      (cases_eq (of_z w y) (2 ^ bits w - 1)))
  remainder_asks false sound =
      subst (λ (d : ℕ). (0 < d) × SFits w (int_div (to_z w 0) (to_z w d))) (sym (by_one (eqb 1 (2 ^ bits w - 1)))) (
        omega arith,
        subst (λ (z : ℤ). SFits w (int_div z (to_z w 1))) (sym (to_z-of_z w (pos 0) zero_fits))
            (subst (λ (z : ℤ). SFits w (int_div (pos 0) z)) (sym (to_z-of_z w (pos 1) one_fits)) zero_fits),
      )

  pub remainder_value : (fine : Bool) → (fine ≡ true → (int_eq y (pos 0) || not (holds w (int_rem x y))) ≡ false)
      → to_z w (of_z w (int_rem (to_z w (cond fine (of_z w x) 0)) (to_z w (divisor_of fine)))) ≡ cond fine (int_rem x y) (pos 0)
  remainder_value true sound = ⊎_elim
      (λ (is : of_z w y ≡ 2 ^ bits w - 1).
      ap (λ (b : Bool). to_z w (of_z w (int_rem (to_z w (of_z w x)) (to_z w (cond b 1 (of_z w y)))))) (eq-eqb (of_z w y) (2 ^ bits w - 1) is)
      ∙ rem_is w x (pos 1) fx one_fits
      ∙ same_remainder x
      ∙ ap (int_rem x) (sym (minus_one is)))
      (λ (other : of_z w y ≢ 2 ^ bits w - 1).
      ap (λ (b : Bool). to_z w (of_z w (int_rem (to_z w (of_z w x)) (to_z w (cond b 1 (of_z w y)))))) (ne_eqb (of_z w y) (2 ^ bits w - 1) other)
      ∙ rem_is w x y fx fy)
      (cases_eq (of_z w y) (2 ^ bits w - 1))
  remainder_value false sound =
      ap (λ (d : ℕ). to_z w (of_z w (int_rem (to_z w 0) (to_z w d)))) (by_one (eqb 1 (2 ^ bits w - 1)))
      ∙ rem_is w (pos 0) (pos 1) zero_fits one_fits
