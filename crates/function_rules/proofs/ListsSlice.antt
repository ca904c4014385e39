-- A slice is a part of its list.
use Rattle.std.proofs.Common.{◌≡◌, ℕ, suc, ◌+◌, ◌-◌, ◌<◌, List, [], ◌∷◌, ◌++◌, length, take, drop, refl, sym, ap, ◌∙◌, arith, ℤ, pos, negsuc}
use Rattle.std.proofs.lemmas.List.{append-nil, take-append-drop, take_all}
use borrow.Author.Tests.{lt-ltb}
use Rattle.function_rules.specs.Lists.{between_places, first_place, place_of, slice_of}

between_part : {Item : Type 0} (items : List Item) (from : ℕ) (to : ℤ)
    → (front : List Item) × ((back : List Item) × (items ≡ front ++ between_places items from to ++ back))
between_part items from (pos to) = (
  take from (take (to + 1) items),
  (
    drop (to + 1) items,
    sym (take-append-drop (to + 1) items) ∙ ap (λ front. front ++ drop (to + 1) items) (sym (take-append-drop from (take (to + 1) items))),
  ),
)
between_part items from (negsuc below) = (items, ([], sym (append-nil (items ++ []) ∙ append-nil items)))

pub slice_part : {Item : Type 0} (items : List Item) (start end : ℤ)
    → (front : List Item) × ((back : List Item) × (items ≡ front ++ slice_of items start end ++ back))
slice_part items start end = between_part items (first_place (place_of start (length items))) (place_of end (length items))

-- from the place 0 to the last place
pub slice_whole : {Item : Type 0} (items : List Item) → slice_of items (pos 0) (pos (length items - 1)) ≡ items
slice_whole items = take_all (length items - 1 + 1) items (omega arith)

last_place : (count : ℕ) → 0 < count → place_of (negsuc 0) count ≡ pos (count - 1)
last_place count some = rw (lt-ltb 0 count some) refl

-- from the first place to the last, the one counted from the start and the other from the end
pub slice_whole_back : {Item : Type 0} (items : List Item) → slice_of items (pos 0) (negsuc 0) ≡ items
slice_whole_back [] = refl
slice_whole_back (item ∷ items) =
    ap (λ to. between_places (item ∷ items) 0 to) (last_place (suc (length items)) (omega arith))
    ∙ take_all (suc (length items) - 1 + 1) (item ∷ items) (omega arith)
