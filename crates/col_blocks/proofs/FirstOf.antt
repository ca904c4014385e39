-- The first of each piece, and which pieces have one.
use Rattle.std.proofs.Common.{◌≡◌, ℕ, zero, suc, ◌+◌, ◌-◌, ◌<◌, ◌≤◌, Bool, true, false, List, [], ◌∷◌, ◌++◌, Some, map, length, get_or, set, take, drop, refl, sym, ap, ◌∙◌, arith, length-set}
use Rattle.std.specs.Prelude.{nat_lt}
use Rattle.std.specs.List.{slice_range, slice_get}
use Rattle.std.proofs.lemmas.List.{take_all, take_more, take_more_set, map_more, take-map, drop-map}
use Rattle.col_blocks.specs.Cells.{first_or}
use Rattle.col_blocks.specs.Pieces.{pieces, filled}
use Rattle.col_blocks.proofs.Cuts.{length-pieces, get_or-pieces}
use Rattle.col_blocks.proofs.Gets.{get-range, get_at}

pub length-filled : (from : ℕ) (ends : List ℕ) → length (filled from ends) ≡ length ends
length-filled from [] = refl
length-filled from (end ∷ ends) = ap suc (length-filled end ends)

get_or-filled : (from : ℕ) (ends : List ℕ) (k : ℕ) (d : Bool) → k < length ends → get_or (filled from ends) k d ≡ nat_lt (get_or (from ∷ ends) k 0) (get_or ends k 0)
get_or-filled from [] k d within = absurd (omega (arith, within))
get_or-filled from (end ∷ ends) zero d within = refl
get_or-filled from (end ∷ ends) (suc k) d within = get_or-filled end ends k d (omega (arith, within))

pub filled_more : (ends : List ℕ) (valid new : List Bool) (row : ℕ) (value : Bool) → row < length ends → length valid ≡ length ends → take row valid ≡ take row (filled 0 ends)
    → new ≡ set valid row value → value ≡ nat_lt (get_or (0 ∷ ends) row 0) (get_or ends row 0) → take (row + 1) new ≡ take (row + 1) (filled 0 ends)
filled_more ends valid new row value within long before is read =
    let many = length-filled 0 ends in
    ap (take (row + 1)) is
    ∙ take_more_set valid row value (omega arith)
    ∙ (λ i. before i ++ (read ∙ sym (get_or-filled 0 ends row false within)) i ∷ [])
    ∙ sym (take_more (filled 0 ends) row false (omega arith))

pub filled_all : (ends : List ℕ) (valid : List Bool) (row : ℕ) → length ends ≤ row → length valid ≡ length ends → take row valid ≡ take row (filled 0 ends) → valid ≡ filled 0 ends
filled_all ends valid row past long same =
    let many = length-filled 0 ends in
    sym (take_all row valid (omega arith)) ∙ same ∙ take_all row (filled 0 ends) (omega arith)

pub first_more : {X : Type 0} (other : X) (xs : List X) (ends : List ℕ) (old new : List X) (row : ℕ) (x : X) → row < length ends → old ≡ map (first_or other) (take row (pieces xs 0 ends))
    → x ≡ first_or other (slice_range xs (get_or (0 ∷ ends) row 0) (get_or ends row 0)) → new ≡ old ++ x ∷ [] → new ≡ map (first_or other) (take (row + 1) (pieces xs 0 ends))
first_more other xs ends old new row x within before read pushed =
    let many = length-pieces xs 0 ends in
    pushed
    ∙ (λ i. before i ++ (read ∙ ap (first_or other) (sym (get_or-pieces xs 0 ends row within))) i ∷ [])
    ∙ sym (map_more (first_or other) (pieces xs 0 ends) row [] (omega arith))

pub first_all : {X : Type 0} (other : X) (xs : List X) (ends : List ℕ) (old : List X) (row : ℕ) → length ends ≤ row → old ≡ map (first_or other) (take row (pieces xs 0 ends)) → old ≡ map (first_or other) (pieces xs 0 ends)
first_all other xs ends old row past before =
    let many = length-pieces xs 0 ends in
    before ∙ ap (map (first_or other)) (take_all row (pieces xs 0 ends) (omega arith))

-- values that are mapped one by one
range-map : {X Y : Type 0} (f : X → Y) (xs : List X) (from end : ℕ) → slice_range (map f xs) from end ≡ map f (slice_range xs from end)
range-map f xs from end = ap (take (end - from)) (drop-map f from xs) ∙ take-map f (end - from) (drop from xs)

first-map : {X Y : Type 0} (f : X → Y) (other : X) (xs : List X) → f (first_or other xs) ≡ first_or (f other) (map f xs)
first-map f other [] = refl
first-map f other (x ∷ xs) = refl

pub first_mapped : {X Y : Type 0} (f : X → Y) (other : X) (xs : List X) (from : ℕ) (ends : List ℕ) → map f (map (first_or other) (pieces xs from ends)) ≡ map (first_or (f other)) (pieces (map f xs) from ends)
first_mapped f other xs from [] = refl
first_mapped f other xs from (end ∷ ends) = λ i. (first-map f other (slice_range xs from end) ∙ ap (first_or (f other)) (sym (range-map f xs from end))) i ∷ first_mapped f other xs end ends i

first_got : {X : Type 0} (other : X) (xs : List X) (x : X) → slice_get xs 0 ≡ Some x → x ≡ first_or other xs
first_got other [] x is = absurd cc
first_got other (y ∷ xs) x is = cc

pub first_at : {X : Type 0} (other : X) (xs : List X) (begin end : ℕ) (d : X) → begin < end → end ≤ length xs → get_or xs begin d ≡ first_or other (slice_range xs begin end)
first_at other xs begin end d some within =
    let here : begin + 0 ≡ begin = omega arith in
    first_got other (slice_range xs begin end) (get_or xs begin d) (get-range xs begin end 0 (omega arith) ∙ ap (slice_get xs) here ∙ get_at xs begin d (omega arith))
