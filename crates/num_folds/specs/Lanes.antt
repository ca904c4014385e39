-- What lanes, and the bits that stand for them, say of the places from a start on.
use Rattle.std.specs.Prelude.{ℕ, ◌≡◌, ◌<◌, ◌⊎◌, Bool, false, eqb, List, length, slice_index_or}
use Rattle.std.specs.Int.{bit_at}
use lib.IntN.{ℤ, pos}

abbrev pub at : List ℤ → ℕ → ℤ
at numbers place = slice_index_or numbers place (pos 0)

abbrev pub set_at : List Bool → ℕ → Bool
set_at mask place = slice_index_or mask place false

-- how many lanes a kernel may take at a time
abbrev pub IsLaneCount : ℕ → Type 0
IsLaneCount n = (n ≡ 4) ⊎ ((n ≡ 8) ⊎ (n ≡ 16))

-- v has n lanes, and lane k holds the number f k
pub record Holds (n : ℕ) (v : List ℤ) (f : ℕ → ℤ) : Type 0 where
  pub long : length v ≡ n
  pub each : (k : ℕ) → k < n → at v k ≡ f k

-- of the first n bits, bit k is 1 where p k is true
abbrev pub Marks : ℕ → ℕ → (ℕ → Bool) → Type 0
Marks n bits p = (k : ℕ) → k < n → eqb (bit_at bits k) 1 ≡ p k
