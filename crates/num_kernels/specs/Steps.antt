-- What a step of the kernels asks of two columns at the places from a start on, and what it puts there.
use Rattle.std.specs.Prelude.{ℕ, ◌≡◌, ◌+◌, ◌^◌, ◌<◌, ◌≤◌, Bool, false, true, eqb, if◌then◌else◌, List, length}
use Rattle.std.specs.Int.{bit_at}
use Rattle.std.specs.Int.RustNames.{FitsSigned}
use Rattle.num_folds.specs.Lanes.{Marks, at}
use Rattle.num_kernels.specs.Numbers.{exact, fails}
use mir.Syntax.{Width}
use lib.IntN.{ℤ, pos}

-- of the first n bits, bit k is 1 where a test is true of the two numbers at start + k
abbrev pub MarksPairs : (ℤ → ℤ → Bool) → ℕ → ℕ → List ℤ → List ℤ → ℕ → Type 0
MarksPairs test n start left right bits = Marks n bits (λ k. test (at left (start + k)) (at right (start + k)))

-- the n numbers from `start` on are the operation's where their bit is 1, and else 0; the others stay
pub record IsPut (op n start bits : ℕ) (left right old new : List ℤ) : Type 0 where
  pub same_length : length new ≡ length old
  pub inside : (k : ℕ) → k < n → at new (start + k) ≡ (if eqb (bit_at bits k) 1 then exact op (at left (start + k)) (at right (start + k)) else pos 0)
  pub before : (k : ℕ) → k < start → at new k ≡ at old k
  pub after : (k : ℕ) → start + n ≤ k → at new k ≡ at old k

-- n lanes of the width can be loaded from both columns at `start`
pub record CanLoad (w : Width) (n start : ℕ) (left right : List ℤ) : Type 0 where
  pub some : 0 < n
  pub few : n ≤ 16
  pub room_left : start + n ≤ length left
  pub room_right : start + n ≤ length right
  pub fit_left : (k : ℕ) → k < n → FitsSigned w (at left (start + k))
  pub fit_right : (k : ℕ) → k < n → FitsSigned w (at right (start + k))

-- n results of an operation can be put from `start` on: it fails at none of the places whose bit is 1
pub record CanPut (w : Width) (op n start bits : ℕ) (left right old : List ℤ) : Type 0 where
  pub load : CanLoad w n start left right
  pub room : start + n ≤ length old
  pub short : bits < 2 ^ 32
  pub sound : (k : ℕ) → k < n → eqb (bit_at bits k) 1 ≡ true → fails w op (at left (start + k)) (at right (start + k)) ≡ false
