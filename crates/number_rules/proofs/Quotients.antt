-- Quotients and remainders.
use Rattle.std.proofs.Common.{◌≡◌, ◌≢◌, ℕ, zero, suc, ◌<◌, ◌^◌, ℤ, pos, negsuc, neg_ℤ, ◌+ℤ◌, ◌*ℤ◌, ◌≤ℤ◌, Err, Ok, refl, sym, arith}
use Rattle.std.specs.Prelude.{unsigned_abs, int_div, int_rem}
use Rattle.std.proofs.lemmas.Int.{quot-rem, rem_below, ints}
use Rattle.std.proofs.lemmas.Nat.{pow_pos}
use Rattle.std.proofs.lemmas.Bool.Decides.{nat_tests}
use Rattle.number_rules.specs.declared.Arithmetic.TheVariants.{Div, Mod}
use Rattle.number_rules.specs.declared.NumberFault.TheVariants.{Overflow}
use Rattle.number_rules.specs.Arithmetic.{arithmetic, exact, within}

pub quotient_and_remainder : (left right : ℤ) → right ≢ pos 0 → left ≡ (exact Div left right *ℤ right) +ℤ exact Mod left right
quotient_and_remainder left right _ = sym (quot-rem left right)

above_zero : (right : ℤ) → right ≢ pos 0 → 0 < unsigned_abs right
above_zero (pos zero) h = absurd (h refl)
above_zero (pos (suc n)) h = omega arith
above_zero (negsuc n) h = omega arith

pub remainder_below : (left right : ℤ) → right ≢ pos 0 → unsigned_abs (exact Mod left right) < unsigned_abs right
remainder_below left right h = rem_below left right (above_zero right h)

pub remainder_not_below_zero : (left right : ℤ) → pos 0 ≤ℤ left → pos 0 ≤ℤ exact Mod left right
remainder_not_below_zero (pos n) right h = omega (arith, ints)
remainder_not_below_zero (negsuc n) right h = absurd (omega (arith, ints))

pub remainder_not_above_zero : (left right : ℤ) → left ≤ℤ pos 0 → exact Mod left right ≤ℤ pos 0
remainder_not_above_zero (pos n) right h = omega (arith, ints)
remainder_not_above_zero (negsuc n) right h = omega (arith, ints)

least_quotient : (bits least : ℕ) → 0 < least → least ≡ 2 ^ bits → within bits (int_div (neg_ℤ (pos least)) (negsuc 0)) ≡ Err Overflow
least_quotient bits zero h e = absurd (omega arith)
least_quotient bits (suc n) h e = grind (arith, nat_tests)

pub least_by_minus_one : (bits : ℕ) → arithmetic bits Div (neg_ℤ (pos (2 ^ bits))) (negsuc 0) ≡ Err Overflow
least_by_minus_one bits = least_quotient bits (2 ^ bits) (pow_pos bits) refl

least_remainder : (bits least : ℕ) → 0 < least → least ≡ 2 ^ bits → within bits (int_rem (neg_ℤ (pos least)) (negsuc 0)) ≡ Ok (pos 0)
least_remainder bits zero h e = absurd (omega arith)
least_remainder bits (suc n) h e = grind (arith, nat_tests)

pub remainder_by_minus_one : (bits : ℕ) → arithmetic bits Mod (neg_ℤ (pos (2 ^ bits))) (negsuc 0) ≡ Ok (pos 0)
remainder_by_minus_one bits = least_remainder bits (2 ^ bits) (pow_pos bits) refl
