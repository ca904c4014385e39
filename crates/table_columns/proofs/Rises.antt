-- Numbers that rise.
use Rattle.std.proofs.Common.{ℕ, zero, suc, ◌+◌, ◌<◌, ◌≤◌, List, [], ◌∷◌, ◌++◌, length, get_or, arith}
use Rattle.table_columns.specs.Sparse.{RiseBetween}

pub rises_within : (from : ℕ) (numbers : List ℕ) (to : ℕ) → RiseBetween from numbers to → from ≤ to
rises_within from [] to rise = rise
rises_within from (number ∷ numbers) to rise = omega (arith, rise.0, rises_within (number + 1) numbers to rise.1)

pub rises_more : (from : ℕ) (numbers : List ℕ) (to above : ℕ) → to ≤ above → RiseBetween from numbers to → RiseBetween from numbers above
rises_more from [] to above more rise = omega arith
rises_more from (number ∷ numbers) to above more rise = (rise.0, rises_more (number + 1) numbers to above more rise.1)

pub rises_push : (from : ℕ) (numbers : List ℕ) (to : ℕ) → RiseBetween from numbers to → RiseBetween from (numbers ++ to ∷ []) (to + 1)
rises_push from [] to rise = (rise, omega arith)
rises_push from (number ∷ numbers) to rise = (rise.0, rises_push (number + 1) numbers to rise.1)

pub rises_from : (from : ℕ) (numbers : List ℕ) (to : ℕ) (k : ℕ) → k < length numbers → RiseBetween from numbers to → from ≤ get_or numbers k 0
rises_from from [] to k within rise = absurd (omega (arith, within))
rises_from from (number ∷ numbers) to zero within rise = rise.0
rises_from from (number ∷ numbers) to (suc k) within rise = omega (arith, rise.0, rises_from (number + 1) numbers to k (omega (arith, within)) rise.1)

pub rises_below : (from : ℕ) (numbers : List ℕ) (to : ℕ) (k : ℕ) → k < length numbers → RiseBetween from numbers to → get_or numbers k 0 < to
rises_below from [] to k within rise = absurd (omega (arith, within))
rises_below from (number ∷ numbers) to zero within rise = omega (arith, rises_within (number + 1) numbers to rise.1)
rises_below from (number ∷ numbers) to (suc k) within rise = rises_below (number + 1) numbers to k (omega (arith, within)) rise.1

pub rises_in_order : (from : ℕ) (numbers : List ℕ) (to : ℕ) → RiseBetween from numbers to → (i j : ℕ) → i ≤ j → j < length numbers → get_or numbers i 0 ≤ get_or numbers j 0
rises_in_order from [] to rise i j before within = absurd (omega (arith, within))
rises_in_order from (number ∷ numbers) to rise zero zero before within = omega arith
rises_in_order from (number ∷ numbers) to rise zero (suc j) before within = omega (arith, rises_from (number + 1) numbers to j (omega (arith, within)) rise.1)
rises_in_order from (number ∷ numbers) to rise (suc i) zero before within = absurd (omega (arith, before))
rises_in_order from (number ∷ numbers) to rise (suc i) (suc j) before within = rises_in_order (number + 1) numbers to rise.1 i j (omega (arith, before)) (omega (arith, within))
