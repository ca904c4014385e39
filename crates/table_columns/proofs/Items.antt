-- The item of a number.
use Rattle.std.proofs.Common.{◌≡◌, ℕ, zero, suc, ◌+◌, ◌<◌, ◌≤◌, Bool, cond, eqb, List, [], ◌∷◌, ◌++◌, Some, length, get_or, refl, ap, ◌∙◌, arith}
use Rattle.std.specs.List.{slice_get}
use Rattle.std.proofs.lemmas.Bool.{eq-eqb, ne_eqb}
use Rattle.table_columns.specs.Sparse.{RiseBetween, item_of}
use Rattle.table_columns.proofs.Rises.{rises_within}

pub chosen : {Y : Type 0} (a b : ℕ) (x y : Y) → a ≡ b → cond (eqb a b) x y ≡ x
chosen a b x y same = ap (λ (t : Bool). cond t x y) (eq-eqb a b same)

pub passed : {Y : Type 0} (a b : ℕ) (x y : Y) → (a ≡ b → ⊥) → cond (eqb a b) x y ≡ y
passed a b x y other = ap (λ (t : Bool). cond t x y) (ne_eqb a b other)

-- another number at the end changes nothing
pub item_push_other : {X : Type 0} (numbers : List ℕ) (items : List (List X)) (number : ℕ) (item : List X) (wanted : ℕ) → length numbers ≡ length items → (number ≡ wanted → ⊥)
    → item_of (numbers ++ number ∷ []) (items ++ item ∷ []) wanted ≡ item_of numbers items wanted
item_push_other [] [] number item wanted paired other = passed number wanted item [] other
item_push_other [] (i ∷ items) number item wanted paired other = absurd (omega arith)
item_push_other (n ∷ numbers) [] number item wanted paired other = absurd (omega arith)
item_push_other {X = X} (n ∷ numbers) (i ∷ items) number item wanted paired other = ap (λ (rest : List X). cond (eqb n wanted) i rest) (item_push_other numbers items number item wanted (omega arith) other)

-- what is put at the end is found by its number, which is past the others
pub item_push_same : {X : Type 0} (from : ℕ) (numbers : List ℕ) (items : List (List X)) (number : ℕ) (item : List X) → length numbers ≡ length items → RiseBetween from numbers number
    → item_of (numbers ++ number ∷ []) (items ++ item ∷ []) number ≡ item
item_push_same from [] [] number item paired rise = chosen number number item [] refl
item_push_same from [] (i ∷ items) number item paired rise = absurd (omega arith)
item_push_same from (n ∷ numbers) [] number item paired rise = absurd (omega arith)
item_push_same from (n ∷ numbers) (i ∷ items) number item paired rise =
    let within = rises_within (n + 1) numbers number rise.1 in
    passed n number i (item_of (numbers ++ number ∷ []) (items ++ item ∷ []) number) (λ same. omega arith) ∙ item_push_same (n + 1) numbers items number item (omega arith) rise.1

-- nothing stands past the numbers, nor before them
pub item_past : {X : Type 0} (from : ℕ) (numbers : List ℕ) (items : List (List X)) (wanted : ℕ) → RiseBetween from numbers wanted → item_of numbers items wanted ≡ []
item_past from [] items wanted rise = refl
item_past from (n ∷ numbers) [] wanted rise = refl
item_past from (n ∷ numbers) (i ∷ items) wanted rise =
    let within = rises_within (n + 1) numbers wanted rise.1 in
    passed n wanted i (item_of numbers items wanted) (λ same. omega arith) ∙ item_past (n + 1) numbers items wanted rise.1

pub item_before : {X : Type 0} (from : ℕ) (numbers : List ℕ) (to : ℕ) (items : List (List X)) (wanted : ℕ) → RiseBetween from numbers to → wanted < from → item_of numbers items wanted ≡ []
item_before from [] to items wanted rise before = refl
item_before from (n ∷ numbers) to [] wanted rise before = refl
item_before from (n ∷ numbers) to (i ∷ items) wanted rise before =
    let after = rise.0 in
    passed n wanted i (item_of numbers items wanted) (λ same. omega arith) ∙ item_before (n + 1) numbers to items wanted rise.1 (omega arith)

got_from : (from : ℕ) (numbers : List ℕ) (to place wanted : ℕ) → RiseBetween from numbers to → slice_get numbers place ≡ Some wanted → from ≤ wanted
got_from from [] to place wanted rise is = absurd cc
got_from from (n ∷ numbers) to zero wanted rise is = let same : n ≡ wanted = cc in let after = rise.0 in omega arith
got_from from (n ∷ numbers) to (suc place) wanted rise is = let after = rise.0 in omega (arith, got_from (n + 1) numbers to place wanted rise.1 is)

-- the item of a number is that at its place
pub item_at : {X : Type 0} (from : ℕ) (numbers : List ℕ) (to : ℕ) (items : List (List X)) (place wanted : ℕ) → RiseBetween from numbers to → length numbers ≡ length items → slice_get numbers place ≡ Some wanted
    → item_of numbers items wanted ≡ get_or items place []
item_at from [] to items place wanted rise paired is = absurd cc
item_at from (n ∷ numbers) to [] place wanted rise paired is = absurd (omega arith)
item_at from (n ∷ numbers) to (i ∷ items) zero wanted rise paired is = chosen n wanted i (item_of numbers items wanted) cc
item_at from (n ∷ numbers) to (i ∷ items) (suc place) wanted rise paired is =
    let after = got_from (n + 1) numbers to place wanted rise.1 is in
    passed n wanted i (item_of numbers items wanted) (λ same. omega arith) ∙ item_at (n + 1) numbers to items place wanted rise.1 (omega arith) is

-- a number that is nowhere has no item
pub item_absent : {X : Type 0} (numbers : List ℕ) (items : List (List X)) (wanted : ℕ) → ((place : ℕ) → slice_get numbers place ≡ Some wanted → ⊥) → item_of numbers items wanted ≡ []
item_absent [] items wanted absent = refl
item_absent (n ∷ numbers) [] wanted absent = refl
item_absent (n ∷ numbers) (i ∷ items) wanted absent =
    passed n wanted i (item_of numbers items wanted) (λ same. absent zero (ap Some same)) ∙ item_absent numbers items wanted (λ place. absent (suc place))
