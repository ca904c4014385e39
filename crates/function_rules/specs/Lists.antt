-- Functions on lists of values, by an equality and an order of their values.
use Rattle.std.specs.Prelude.{ℕ, ◌+◌, ◌-◌, ℤ, pos, negsuc, min, not, Bool, nat_lt, List, [], ◌∷◌, length, take, drop, if◌then◌else◌}
use Rattle.std.specs.List.{filter}
use Rattle.std.specs.Ordering.{is_lt, is_gt}
use Rattle.std.specs.declared.cmp.Ordering.{Ordering}

-- MV_COUNT: how many values there are, at most 2147483647
abbrev pub count_of : {Item : Type 0} → List Item → ℕ
count_of items = min (length items) 2147483647

-- MV_FIRST: the first value
abbrev pub first_of : {Item : Type 0} → List Item → List Item
first_of [] = []
first_of (item ∷ items) = item ∷ []

-- MV_LAST: the last value
abbrev pub last_of : {Item : Type 0} → List Item → List Item
last_of [] = []
last_of (item ∷ []) = item ∷ []
last_of (item ∷ next ∷ items) = last_of (next ∷ items)

-- the least of a value and others, the earlier one of equals
abbrev pub least_from : {Item : Type 0} → (Item → Item → Ordering) → Item → List Item → Item
least_from order best [] = best
least_from order best (item ∷ items) = least_from order (if is_lt (order item best) then item else best) items

-- MV_MIN, LEAST: the least value
abbrev pub least_of : {Item : Type 0} → (Item → Item → Ordering) → List Item → List Item
least_of order [] = []
least_of order (item ∷ items) = least_from order item items ∷ []

-- the greatest of a value and others, the earlier one of equals
abbrev pub greatest_from : {Item : Type 0} → (Item → Item → Ordering) → Item → List Item → Item
greatest_from order best [] = best
greatest_from order best (item ∷ items) = greatest_from order (if is_gt (order item best) then item else best) items

-- MV_MAX, GREATEST: the greatest value
abbrev pub greatest_of : {Item : Type 0} → (Item → Item → Ordering) → List Item → List Item
greatest_of order [] = []
greatest_of order (item ∷ items) = greatest_from order item items ∷ []

-- MV_DEDUPE: each value once, by its first place
abbrev pub distinct_of : {Item : Type 0} → (Item → Item → Bool) → List Item → List Item
distinct_of same [] = []
distinct_of same (item ∷ items) = item ∷ filter (λ other. not (same item other)) (distinct_of same items)

-- a value put before the first one that stands behind it in the order
abbrev pub put_in_order : {Item : Type 0} → (Item → Item → Ordering) → Item → List Item → List Item
put_in_order order item [] = item ∷ []
put_in_order order item (first ∷ rest) = if is_gt (order item first) then first ∷ put_in_order order item rest else item ∷ first ∷ rest

-- MV_SORT: the values in their order
abbrev pub sorted_by : {Item : Type 0} → (Item → Item → Ordering) → List Item → List Item
sorted_by order [] = []
sorted_by order (item ∷ items) = put_in_order order item (sorted_by order items)

-- the values from the place `from` on, where the place `to` is the last of them; places count from 0
abbrev pub between_places : {Item : Type 0} → List Item → ℕ → ℤ → List Item
between_places items from (pos to) = drop from (take (to + 1) items)
between_places items from (negsuc below) = []

-- a place that is counted from the end is below 0, and the number of values is added to it
abbrev pub place_of : ℤ → ℕ → ℤ
place_of (pos place) count = pos place
place_of (negsuc back) count = if nat_lt back count then pos (count - (back + 1)) else negsuc (back - count)

-- the first place at or behind a start
abbrev pub first_place : ℤ → ℕ
first_place (pos place) = place
first_place (negsuc below) = 0

-- MV_SLICE: the values at the places from a start to an end, those that are there
abbrev pub slice_of : {Item : Type 0} → List Item → ℤ → ℤ → List Item
slice_of items start end = between_places items (first_place (place_of start (length items))) (place_of end (length items))
