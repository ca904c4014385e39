-- Lists by places: one place set, and one more.
use Rattle.std.proofs.Common.{◌≡◌, ◌⊎◌, inl, inr, ℕ, zero, suc, ◌+◌, ◌<◌, List, [], ◌∷◌, ◌++◌, length, Option, Some, None, refl, sym, ap, ◌∙◌, arith, rules}
use Rattle.std.specs.List.{slice_get, slice_set}

pub some_is : {A : Type 0} (one other : A) → Some one ≡ Some other → one ≡ other
some_is one other is = search rules

pub set_here : {A : Type 0} (xs : List A) (place : ℕ) (x : A) → place < length xs → slice_get (slice_set xs place x) place ≡ Some x
set_here [] place x within = absurd (omega (arith, within))
set_here (first ∷ xs) zero x within = refl
set_here (first ∷ xs) (suc place) x within = set_here xs place x (omega (arith, within))

pub set_other : {A : Type 0} (xs : List A) (place other : ℕ) (x : A) → (other ≡ place → ⊥) → slice_get (slice_set xs place x) other ≡ slice_get xs other
set_other [] place other x apart = refl
set_other (first ∷ xs) zero zero x apart = absurd (apart refl)
set_other (first ∷ xs) zero (suc other) x apart = refl
set_other (first ∷ xs) (suc place) zero x apart = refl
set_other (first ∷ xs) (suc place) (suc other) x apart = set_other xs place other x (λ same. apart (omega (arith, same)))

pub within_some : {A : Type 0} (xs : List A) (place : ℕ) (x : A) → slice_get xs place ≡ Some x → place < length xs
within_some [] place x is = absurd cc
within_some (first ∷ xs) zero x is = omega arith
within_some (first ∷ xs) (suc place) x is = let rest = within_some xs place x is in omega (arith, rest)

pub front_kept : {A : Type 0} (xs : List A) (place : ℕ) (last x : A) → slice_get xs place ≡ Some x → slice_get (xs ++ last ∷ []) place ≡ Some x
front_kept [] place last x is = absurd cc
front_kept (first ∷ xs) zero last x is = is
front_kept (first ∷ xs) (suc place) last x is = front_kept xs place last x is

pub last_here : {A : Type 0} (xs : List A) (last : A) → slice_get (xs ++ last ∷ []) (length xs) ≡ Some last
last_here [] last = refl
last_here (first ∷ xs) last = last_here xs last

-- an item of one more is one of those before, or the last one
pub front_or_last : {A : Type 0} (xs : List A) (place : ℕ) (last x : A) → slice_get (xs ++ last ∷ []) place ≡ Some x
    → (slice_get xs place ≡ Some x) ⊎ ((place ≡ length xs) × (last ≡ x))
front_or_last [] zero last x is = inr (refl, some_is last x is)
front_or_last [] (suc place) last x is = absurd cc
front_or_last (first ∷ xs) zero last x is = inl is
front_or_last (first ∷ xs) (suc place) last x is = by_rest (front_or_last xs place last x is)
  where
    by_rest : (slice_get xs place ≡ Some x) ⊎ ((place ≡ length xs) × (last ≡ x)) → (slice_get xs place ≡ Some x) ⊎ ((suc place ≡ length (first ∷ xs)) × (last ≡ x))
    by_rest (inl front) = inl front
    by_rest (inr behind) = inr (omega (arith, behind.0), behind.1)
