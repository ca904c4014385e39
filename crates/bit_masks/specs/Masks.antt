-- A mask as the list of its booleans, and what its words say of them.
use Rattle.std.specs.Prelude.{ℕ, ◌≡◌, ◌/◌, ◌%◌, ◌<◌, ◌≤◌, Bool, true, false, eqb, List, Option, Some, None, length, slice_index, slice_index_or}
use Rattle.std.specs.List.{range_with_len}
use Rattle.std.specs.Int.{bit_at}
use mathlib.Core.List.{map}

-- place i is set where bit i % 64 of word i / 64 is 1
abbrev pub is_set : List ℕ → ℕ → Bool
is_set words i = eqb (bit_at (slice_index words (i / 64)) (i % 64)) 1

-- the booleans that the first `len` bits of the words stand for
abbrev pub booleans : List ℕ → ℕ → List Bool
booleans words len = map (is_set words) (range_with_len 0 len)

-- the least true place that is at least `start`, or none where there is none
abbrev pub IsNextSet : List Bool → ℕ → Option ℕ → Type 0
IsNextSet mask start None = (i : ℕ) → start ≤ i → i < length mask → slice_index_or mask i false ≡ false
IsNextSet mask start (Some place) = (start ≤ place) × (place < length mask) × (slice_index_or mask place false ≡ true) × ((i : ℕ) → start ≤ i → i < place → slice_index_or mask i false ≡ false)

-- the first word from `start` on that is not 0, or none where there is none
abbrev pub IsNextWord : List ℕ → ℕ → Option ℕ → Type 0
IsNextWord words start None = (k : ℕ) → start ≤ k → k < length words → slice_index words k ≡ 0
IsNextWord words start (Some index) = (start ≤ index) × (index < length words) × (0 < slice_index words index) × ((k : ℕ) → start ≤ k → k < index → slice_index words k ≡ 0)
