-- Sums and extremes over the places that are set in two masks.
use Rattle.std.specs.Prelude.{ℕ, zero, suc, ◌≡◌, ◌*◌, ◌^◌, ◌<◌, ◌≤◌, Bool, true, false, ◌&&◌, if◌then◌else◌, List, Option, Some, None, unsigned_abs, int_lt}
use Rattle.num_folds.specs.Lanes.{at, set_at}
use lib.IntN.{ℤ, pos, ◌+ℤ◌}
use lib.Signed.{◌≤ℤ◌}

-- a place that is set in both masks
abbrev pub both_at : List Bool → List Bool → ℕ → Bool
both_at valid keep place = set_at valid place && set_at keep place

-- the number at a place that is set in both masks, and 0 at another
abbrev pub kept_at : List ℤ → List Bool → List Bool → ℕ → ℤ
kept_at values valid keep place = if both_at valid keep place then at values place else pos 0

-- the sum of the first n numbers of a series
abbrev pub total : (ℕ → ℤ) → ℕ → ℤ
total series zero = pos 0
total series (suc n) = total series n +ℤ series n

-- a sum of n numbers of at most `size` bits, with the bound that they give it
pub record IsTotal (size : ℕ) (series : ℕ → ℤ) (n : ℕ) (sum : ℤ) : Type 0 where
  pub is : sum ≡ total series n
  pub small : unsigned_abs sum ≤ n * 2 ^ size

-- of the first n places those that are set in both masks hold no number that comes before the best one, which one of them holds; None where no place is set in both
abbrev pub IsBest : (ℤ → ℤ → Type 0) → List ℤ → List Bool → List Bool → ℕ → Option ℤ → Type 0
IsBest R values valid keep n None = (k : ℕ) → k < n → both_at valid keep k ≡ false
IsBest R values valid keep n (Some best) = ((k : ℕ) → k < n → both_at valid keep k ≡ true → R best (at values k)) × ((k : ℕ) × (k < n) × (both_at valid keep k ≡ true) × (best ≡ at values k))

abbrev pub IsLeast : List ℤ → List Bool → List Bool → ℕ → Option ℤ → Type 0
IsLeast = IsBest (λ least x. least ≤ℤ x)

abbrev pub IsGreatest : List ℤ → List Bool → List Bool → ℕ → Option ℤ → Type 0
IsGreatest = IsBest (λ greatest x. x ≤ℤ greatest)

-- one number is as good as another, where the least is sought, and where the greatest is
abbrev pub AsGood : Bool → ℤ → ℤ → Type 0
AsGood true = λ least x. least ≤ℤ x
AsGood false = λ greatest x. x ≤ℤ greatest

abbrev pub is_better : Bool → ℤ → ℤ → Bool
is_better true x best = int_lt x best
is_better false x best = int_lt best x

-- the better of the best so far and one more number
abbrev pub better_of : Bool → Option ℤ → ℤ → Option ℤ
better_of sought None x = Some x
better_of sought (Some best) x = if is_better sought x best then Some x else Some best

-- a number is no better than the best so far
abbrev pub IsNoBetter : (ℤ → ℤ → Type 0) → Option ℤ → ℤ → Type 0
IsNoBetter R None x = ⊥
IsNoBetter R (Some best) x = R best x
