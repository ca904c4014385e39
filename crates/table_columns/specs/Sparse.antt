-- A list that is known by some of its places: their numbers, which rise, and what stands at each.
use Rattle.std.specs.Prelude.{ℕ, ◌+◌, ◌≤◌, ◌==◌, if◌then◌else◌, List, [], ◌∷◌, map}
use Rattle.std.specs.List.{range_with_len}

-- the numbers rise, none is before `from`, and each is before `to`
abbrev pub RiseBetween : ℕ → List ℕ → ℕ → Type 0
RiseBetween from [] to = from ≤ to
RiseBetween from (number ∷ numbers) to = (from ≤ number) × RiseBetween (number + 1) numbers to

-- the item of a number: that which stands beside it, and the empty list where it is not among the numbers
abbrev pub item_of : {X : Type 0} → List ℕ → List (List X) → ℕ → List X
item_of [] items wanted = []
item_of (number ∷ numbers) [] wanted = []
item_of (number ∷ numbers) (item ∷ items) wanted = if number == wanted then item else item_of numbers items wanted

-- the items of the numbers below a count, one after the other
abbrev pub items_below : {X : Type 0} → List ℕ → List (List X) → ℕ → List (List X)
items_below numbers items count = map (item_of numbers items) (range_with_len 0 count)
