-- Pieces of a list: where each begins and ends, one more of them, and more of the list.
use Rattle.std.proofs.Common.{◌≡◌, ℕ, zero, suc, ◌+◌, ◌-◌, ◌<◌, ◌≤◌, List, [], ◌∷◌, ◌++◌, length, get_or, take, drop, refl, sym, ap, ◌∙◌, arith, length-drop, length-append}
use Rattle.std.proofs.lemmas.List.{drop-append-le, take-append-le, drop_at, take_all}
use Rattle.std.specs.List.{slice_range}
use Rattle.col_blocks.specs.Pieces.{pieces, last_end, Rises}

pub length-pieces : {X : Type 0} (xs : List X) (from : ℕ) (ends : List ℕ) → length (pieces xs from ends) ≡ length ends
length-pieces xs from [] = refl
length-pieces xs from (end ∷ ends) = ap suc (length-pieces xs end ends)

pub get_or-pieces : {X : Type 0} (xs : List X) (from : ℕ) (ends : List ℕ) (k : ℕ) → k < length ends
    → get_or (pieces xs from ends) k [] ≡ slice_range xs (get_or (from ∷ ends) k 0) (get_or ends k 0)
get_or-pieces xs from [] k within = absurd (omega (arith, within))
get_or-pieces xs from (end ∷ ends) zero within = refl
get_or-pieces xs from (end ∷ ends) (suc k) within = get_or-pieces xs end ends k (omega (arith, within))

pub rises_bound : (from : ℕ) (ends : List ℕ) (to : ℕ) → Rises from ends to → from ≤ to
rises_bound from [] to rises = rises
rises_bound from (end ∷ ends) to rises = omega (arith, rises.0, rises_bound end ends to rises.1)

pub rises_at : (from : ℕ) (ends : List ℕ) (to k : ℕ) → Rises from ends to → k < length ends → (get_or (from ∷ ends) k 0 ≤ get_or ends k 0) × (get_or ends k 0 ≤ to)
rises_at from [] to k rises within = absurd (omega (arith, within))
rises_at from (end ∷ ends) to zero rises within = (rises.0, rises_bound end ends to rises.1)
rises_at from (end ∷ ends) to (suc k) rises within = rises_at end ends to k rises.1 (omega (arith, within))

pub last_at_most : (from : ℕ) (ends : List ℕ) (to : ℕ) → Rises from ends to → last_end from ends ≤ to
last_at_most from [] to rises = rises
last_at_most from (end ∷ ends) to rises = last_at_most end ends to rises.1

pub rises_more : (from : ℕ) (ends : List ℕ) (to more : ℕ) → Rises from ends to → to ≤ more → Rises from ends more
rises_more from [] to more rises within = omega (arith, rises, within)
rises_more from (end ∷ ends) to more rises within = (rises.0, rises_more end ends to more rises.1 within)

pub rises_push : (from : ℕ) (ends : List ℕ) (to end more : ℕ) → Rises from ends to → last_end from ends ≤ end → end ≤ more → Rises from (ends ++ end ∷ []) more
rises_push from [] to end more rises after within = (after, within)
rises_push from (one ∷ ends) to end more rises after within = (rises.0, rises_push one ends to end more rises.1 after within)

pub last_end-push : (from : ℕ) (ends : List ℕ) (end : ℕ) → last_end from (ends ++ end ∷ []) ≡ end
last_end-push from [] end = refl
last_end-push from (one ∷ ends) end = last_end-push one ends end

pub pieces-push : {X : Type 0} (xs : List X) (from : ℕ) (ends : List ℕ) (end : ℕ) → pieces xs from (ends ++ end ∷ []) ≡ pieces xs from ends ++ slice_range xs (last_end from ends) end ∷ []
pieces-push xs from [] end = refl
pieces-push xs from (one ∷ ends) end = ap (λ rest. slice_range xs from one ∷ rest) (pieces-push xs one ends end)

pub range-append : {X : Type 0} (xs ys : List X) (from end : ℕ) → from ≤ end → end ≤ length xs → slice_range (xs ++ ys) from end ≡ slice_range xs from end
range-append xs ys from end ordered within =
    let long = length-drop from xs in
    ap (take (end - from)) (drop-append-le from xs ys (omega arith)) ∙ take-append-le (end - from) (drop from xs) ys (omega arith)

pub pieces-append : {X : Type 0} (xs ys : List X) (from : ℕ) (ends : List ℕ) (to : ℕ) → Rises from ends to → to ≤ length xs → pieces (xs ++ ys) from ends ≡ pieces xs from ends
pieces-append xs ys from [] to rises within = refl
pieces-append xs ys from (end ∷ ends) to rises within =
    let inside = rises_bound end ends to rises.1 in
    λ i. range-append xs ys from end rises.0 (omega arith) i ∷ pieces-append xs ys end ends to rises.1 within i

-- what is appended is the last piece
pub range_rest : {X : Type 0} (xs ys : List X) (from end : ℕ) → from ≡ length xs → end ≡ length xs + length ys → slice_range (xs ++ ys) from end ≡ ys
range_rest xs ys from end begins ends = ap (take (end - from)) (drop_at xs ys from (sym begins)) ∙ take_all (end - from) ys (omega arith)
