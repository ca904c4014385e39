-- What the functions on lists read of their lists.
use Rattle.std.proofs.Common.{◌≡◌, ℕ, suc, ◌+◌, ◌-◌, ◌^◌, ◌<◌, ◌≤◌, ℤ, pos, negsuc, List, [], ◌∷◌, length, take, drop, Option, Some, None, Result, Ok, Err, refl, sym, ap, ◌∙◌, ⊎_elim, arith}
use Rattle.std.specs.Borrow.{Bor}
use Rattle.std.specs.Int.{FitsUnsignedBits}
use Rattle.std.specs.Prelude.{unsigned_abs}
use Rattle.std.specs.List.{slice_get}
use Rattle.std.specs.Option.{option_to_list, unwrap_or}
use Rattle.std.specs.Result.{OkIff, result_unwrap_or}
use Rattle.std.specs.Slice.{IsGetRangeResult}
use Rattle.std.specs.declared.num.TryFromIntError.{TryFromIntError}
use Rattle.std.proofs.lemmas.List.{drop_all, length-drop, take_all}
use mir.Syntax.{w64}
use mir.Val.{SFits}
use Rattle.function_rules.specs.Lists.{between_places, first_place, last_of, place_of, slice_of}

-- the last value stands at the last place
pub last_at : {Item : Type 0} (items : List Item) → option_to_list (slice_get items (length items - 1)) ≡ last_of items
last_at [] = refl
last_at (item ∷ []) = refl
last_at (item ∷ next ∷ items) =
    let back : suc (suc (length items)) - 1 ≡ suc (length items) = omega arith in
    let same : suc (length items) - 1 ≡ length items = omega arith in
    rw back (rw same at (last_at (next ∷ items)))

-- the front of a list that `get` finds, or else the whole list
pub front_read : {Item : Type 0} (items : List Item) (whole : Bor (List Item)) (n : ℕ) (found : Option (Bor (List Item)))
    → whole.now ≡ items → IsGetRangeResult items 0 n found → (unwrap_or found whole).now ≡ take n items
front_read items whole n None same (cases, there) =
    let short : length items ≤ n = ⊎_elim (λ below. omega arith) (λ past. omega arith) cases in
    same ∙ sym (take_all n items short)
front_read items whole n (Some front) same (cases, there) =
    let all : n - 0 ≡ n = omega arith in
    cases.2 ∙ ap (λ k. take k items) all

-- the back of a list that `get` finds, or else no values
pub back_read : {Item : Type 0} (items : List Item) (none : Bor (List Item)) (n : ℕ) (found : Option (Bor (List Item)))
    → none.now ≡ [] → IsGetRangeResult items n (length items) found → (unwrap_or found none).now ≡ drop n items
back_read items none n None empty (cases, there) =
    let short : length items ≤ n = ⊎_elim (λ below. omega arith) (λ past. omega arith) cases in
    empty ∙ sym (drop_all n items short)
back_read items none n (Some back) empty (cases, there) =
    let size : length (drop n items) ≤ length items - n = omega (arith, length-drop n items) in
    cases.2 ∙ take_all (length items - n) (drop n items) size

-- where numbers of 64 bits are read as places
pub start_read : (place : ℤ) (read : Result ℕ TryFromIntError) → SFits w64 place → OkIff read (FitsUnsignedBits 64 place) (unsigned_abs place)
    → result_unwrap_or read 0 ≡ first_place place
start_read (pos n) (Ok at) fits (within, is) = is
start_read (pos n) (Err error) fits large = let below : n < 2 ^ 63 = fits.sfits in absurd (large (omega arith))
start_read (negsuc n) (Ok at) fits (within, is) = absurd within
start_read (negsuc n) (Err error) fits large = refl

pub end_read : (place : ℤ) (to : ℕ) → FitsUnsignedBits 64 place × (to ≡ unsigned_abs place) → place ≡ pos to
end_read (pos n) to (within, is) = ap pos (sym is)
end_read (negsuc n) to (within, is) = absurd within

-- the front up to the last place, without what stands before the first place
pub slice_found : {Item : Type 0} (items front back : List Item) (start end : ℤ) (from to : ℕ)
    → place_of end (length items) ≡ pos to → from ≡ first_place (place_of start (length items))
    → front ≡ take (to + 1) items → back ≡ drop from front → back ≡ slice_of items start end
slice_found items front back start end from to last first in_front in_back =
    in_back
    ∙ ap (drop from) in_front
    ∙ ap (λ place. drop place (take (to + 1) items)) first
    ∙ sym (ap (between_places items (first_place (place_of start (length items)))) last)
