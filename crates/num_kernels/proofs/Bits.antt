-- The bits of two masks that are put together.
use Rattle.std.proofs.Common.{◌≡◌, ℕ, zero, suc, ◌+◌, ◌%◌, ◌^◌, ◌<◌, ◌≤◌, Bool, eqb, not, ◌||◌, refl, ap, ◌∙◌, arith, w64}
use Rattle.std.proofs.lemmas.Nat.Bits.{bit_at_xor, bit_at-lt}
use Rattle.std.specs.Int.{bit_at, bit_not}
use Rattle.std.specs.Int.RustNames.{bit_or, bit_xor}
use Rattle.bit_masks.proofs.Places.{bit_of_or, bit_of_not}
use Rattle.num_folds.specs.Lanes.{Marks}
use mathlib.Core.Bool.{beq}

apart : (a b : ℕ) → a < 2 → b < 2 → eqb ((a + b) % 2) 1 ≡ not (beq (eqb a 1) (eqb b 1))
apart zero zero p q = refl
apart zero (suc zero) p q = refl
apart (suc zero) zero p q = refl
apart (suc zero) (suc zero) p q = refl
apart zero (suc (suc b)) p q = absurd (omega arith)
apart (suc zero) (suc (suc b)) p q = absurd (omega arith)
apart (suc (suc a)) b p q = absurd (omega arith)

pub bit_of_xor : (a b k : ℕ) → eqb (bit_at (bit_xor a b) k) 1 ≡ not (beq (eqb (bit_at a k) 1) (eqb (bit_at b k) 1))
bit_of_xor a b k = ap (λ (bit : ℕ). eqb bit 1) (bit_at_xor a b k) ∙ apart (bit_at a k) (bit_at b k) (bit_at-lt a k) (bit_at-lt b k)

module _ {p q : Bool} (a b k : ℕ) (left : eqb (bit_at a k) 1 ≡ p) (right : eqb (bit_at b k) 1 ≡ q) where
  pub xor_bits : eqb (bit_at (bit_xor a b) k) 1 ≡ not (beq p q)
  xor_bits = bit_of_xor a b k ∙ ap (λ (x : Bool). not (beq x (eqb (bit_at b k) 1))) left ∙ ap (λ (x : Bool). not (beq p x)) right

  pub or_bits : eqb (bit_at (bit_or a b) k) 1 ≡ (p || q)
  or_bits = bit_of_or a b k ∙ ap (λ (x : Bool). x || eqb (bit_at b k) 1) left ∙ ap (λ (x : Bool). p || x) right

-- the lanes at which a test does not hold
pub not_bits : (n bits : ℕ) (p : ℕ → Bool) → n ≤ 16 → bits < 2 ^ 64 → Marks n bits p → Marks n (bit_not w64 bits) (λ k. not (p k))
not_bits n bits p few fits marked = λ k below. bit_of_not bits k fits (omega arith) ∙ ap not (marked k below)
