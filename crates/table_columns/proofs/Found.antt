-- What a search in numbers that rise says.
use Rattle.std.proofs.Common.{◌≡◌, ℕ, zero, suc, ◌<◌, ◌≤◌, List, [], ◌∷◌, Some, None, Result, Ok, Err, MatchResult, length, get_or, arith}
use Rattle.std.specs.List.{slice_get}
use Rattle.std.specs.Result.{result_ok}
use Rattle.std.proofs.lemmas.Bool.{cases_lt}
use Rattle.std.proofs.Common.{⊎_elim}

pub got_within : {X : Type 0} (xs : List X) (i : ℕ) (x : X) → slice_get xs i ≡ Some x → i < length xs
got_within [] i x is = absurd cc
got_within (y ∷ xs) zero x is = omega arith
got_within (y ∷ xs) (suc i) x is = omega (arith, got_within xs i x is)

pub got_or : {X : Type 0} (xs : List X) (i : ℕ) (x d : X) → slice_get xs i ≡ Some x → get_or xs i d ≡ x
got_or [] i x d is = absurd cc
got_or (y ∷ xs) zero x d is = cc
got_or (y ∷ xs) (suc i) x d is = got_or xs i x d is

pub nowhere : (xs : List ℕ) (x : ℕ) (r : Result ℕ ℕ)
    → MatchResult r (λ i. (i < length xs) × (get_or xs i 0 ≡ x)) (λ i. (i ≤ length xs) × ((k : ℕ) → k < i → get_or xs k 0 < x) × ((k : ℕ) → i ≤ k → k < length xs → x < get_or xs k 0))
    → result_ok r ≡ None → (place : ℕ) → slice_get xs place ≡ Some x → ⊥
nowhere xs x (Ok i) says none place got = cc
nowhere xs x (Err i) says none place got =
    let here = got_or xs place x 0 got in
    let within = got_within xs place x got in
    ⊎_elim
    (λ (before : place < i). let less = says.1 place before in omega arith)
    (λ (after : i ≤ place). let more = says.2 place after within in omega arith)
    (cases_lt place i)
