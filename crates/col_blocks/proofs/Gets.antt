-- The value at a place of a part of a list.
use Rattle.std.proofs.Common.{◌≡◌, ℕ, zero, suc, ◌+◌, ◌-◌, ◌<◌, ◌≤◌, List, [], ◌∷◌, ◌++◌, Option, Some, None, map, length, get_or, take, drop, refl, sym, ap, ◌∙◌, arith}
use Rattle.std.proofs.lemmas.List.{take_more}
use Rattle.std.specs.List.{slice_range, slice_get}
use Rattle.std.specs.Option.{option_map}

pub get_past : {X : Type 0} (xs : List X) (i : ℕ) → length xs ≤ i → slice_get xs i ≡ None
get_past [] i past = refl
get_past (x ∷ xs) zero past = absurd (omega (arith, past))
get_past (x ∷ xs) (suc i) past = get_past xs i (omega (arith, past))

pub get-take : {X : Type 0} (n : ℕ) (xs : List X) (i : ℕ) → i < n → slice_get (take n xs) i ≡ slice_get xs i
get-take zero xs i below = absurd (omega (arith, below))
get-take (suc n) [] i below = refl
get-take (suc n) (x ∷ xs) zero below = refl
get-take (suc n) (x ∷ xs) (suc i) below = get-take n xs i (omega (arith, below))

pub get-take_past : {X : Type 0} (n : ℕ) (xs : List X) (i : ℕ) → n ≤ i → slice_get (take n xs) i ≡ None
get-take_past zero xs i past = refl
get-take_past (suc n) [] i past = refl
get-take_past (suc n) (x ∷ xs) zero past = absurd (omega (arith, past))
get-take_past (suc n) (x ∷ xs) (suc i) past = get-take_past n xs i (omega (arith, past))

pub get-drop : {X : Type 0} (n : ℕ) (xs : List X) (i : ℕ) → slice_get (drop n xs) i ≡ slice_get xs (n + i)
get-drop zero xs i = let e : i ≡ 0 + i = omega arith in ap (slice_get xs) e
get-drop (suc n) [] i = refl
get-drop (suc n) (x ∷ xs) i = let e : suc (n + i) ≡ suc n + i = omega arith in get-drop n xs i ∙ ap (slice_get (x ∷ xs)) e

pub get-range : {X : Type 0} (xs : List X) (from end i : ℕ) → i < end - from → slice_get (slice_range xs from end) i ≡ slice_get xs (from + i)
get-range xs from end i below = get-take (end - from) (drop from xs) i below ∙ get-drop from xs i

pub get-range_past : {X : Type 0} (xs : List X) (from end i : ℕ) → end - from ≤ i → slice_get (slice_range xs from end) i ≡ None
get-range_past xs from end i past = get-take_past (end - from) (drop from xs) i past

pub got_within : {X : Type 0} (xs : List X) (i : ℕ) (x : X) → slice_get xs i ≡ Some x → i < length xs
got_within [] i x is = absurd cc
got_within (y ∷ xs) zero x is = omega arith
got_within (y ∷ xs) (suc i) x is = omega (arith, got_within xs i x is)

pub got_or : {X : Type 0} (xs : List X) (i : ℕ) (x d : X) → slice_get xs i ≡ Some x → get_or xs i d ≡ x
got_or [] i x d is = absurd cc
got_or (y ∷ xs) zero x d is = cc
got_or (y ∷ xs) (suc i) x d is = got_or xs i x d is

pub get_at : {X : Type 0} (xs : List X) (i : ℕ) (d : X) → i < length xs → slice_get xs i ≡ Some (get_or xs i d)
get_at [] i d within = absurd (omega (arith, within))
get_at (x ∷ xs) zero d within = refl
get_at (x ∷ xs) (suc i) d within = get_at xs i d (omega (arith, within))

-- one more value of a list that is copied from its start
pub copied_more : {X : Type 0} (xs old new : List X) (i : ℕ) (x : X) → old ≡ take i xs → Some x ≡ slice_get xs i → new ≡ old ++ x ∷ [] → new ≡ take (i + 1) xs
copied_more xs old new i x before is pushed =
    pushed ∙ (λ j. before j ++ sym (got_or xs i x x (sym is)) j ∷ []) ∙ sym (take_more xs i x (got_within xs i x (sym is)))

pub got_none : {X : Type 0} (xs : List X) (i : ℕ) → i < length xs → None ≡ slice_get xs i → ⊥
got_none [] i within none = omega (arith, within)
got_none (x ∷ xs) zero within none = cc
got_none (x ∷ xs) (suc i) within none = got_none xs i (omega (arith, within)) none

pub get-map : {X Y : Type 0} (f : X → Y) (xs : List X) (i : ℕ) → option_map f (slice_get xs i) ≡ slice_get (map f xs) i
get-map f [] i = refl
get-map f (x ∷ xs) zero = refl
get-map f (x ∷ xs) (suc i) = get-map f xs i
