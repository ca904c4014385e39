-- Items that stand at a number and on in a list, as the patterns and cutters of a plan.
use Rattle.std.proofs.Common.{◌≡◌, ℕ, suc, ◌+◌, List, [], ◌∷◌, ◌++◌, length, Some, refl, ap, subst, ◌∙◌, append_assoc, arith}
use Rattle.std.specs.Prelude.{slice_get}

-- these items stand in the list, the first at this place
abbrev pub HasAt : {Item : Type 0} → List Item → ℕ → List Item → Type 0
HasAt all place [] = Unit {0}
HasAt all place (item ∷ items) = (slice_get all place ≡ Some item) × HasAt all (place + 1) items

-- these and those behind them
pub at-append : {Item : Type 0} (all : List Item) (place : ℕ) (these those : List Item) → HasAt all place (these ++ those)
    → HasAt all place these × HasAt all (place + length these) those
at-append all place [] those at = (tt, subst (λ (n : ℕ). HasAt all n those) (same place) at)
  where
    same : (n : ℕ) → n ≡ n + 0
    same n = omega arith
at-append all place (item ∷ these) those at =
    let rest = at-append all (place + 1) these those at.1 in
    ((at.0, rest.0), subst (λ (n : ℕ). HasAt all n those) (same place (length these)) rest.1)
  where
    same : (n m : ℕ) → n + 1 + m ≡ n + suc m
    same n m = omega arith

pub slice_get-behind : {Item : Type 0} (before : List Item) (item : Item) (after : List Item) → slice_get (before ++ item ∷ after) (length before) ≡ Some item
slice_get-behind [] item after = refl
slice_get-behind (first ∷ before) item after = slice_get-behind before item after

pub length-push : {Item : Type 0} (before : List Item) (item : Item) → length (before ++ item ∷ []) ≡ length before + 1
length-push [] item = refl
length-push (first ∷ before) item = ap (λ n. suc n) (length-push before item) ∙ omega arith

behind : {Item : Type 0} (before items : List Item) → HasAt (before ++ items) (length before) items
behind before [] = tt
behind {Item} before (item ∷ items) = (
  slice_get-behind before item items,
  subst (λ (n : ℕ). HasAt (before ++ item ∷ items) n items) (length-push before item)
      (subst (λ (all : List Item). HasAt all (length (before ++ item ∷ [])) items) (append_assoc before (item ∷ []) items) (behind (before ++ item ∷ []) items)),
)

-- all items stand at the front
pub all_at : {Item : Type 0} (all : List Item) → HasAt all 0 all
all_at all = behind [] all
