-- The last place that passes a test, from the end of a list on.
use Rattle.std.proofs.Common.{◌≡◌, ℕ, ◌+◌, ◌-◌, ◌<◌, ◌≤◌, Bool, true, false, cond, List, [], ◌∷◌, ◌++◌, length, get_or, take, Some, None, ap, ◌∙◌, arith}
use Rattle.std.specs.Option.{option_map, option_or}
use Rattle.name_rules.specs.NameRules.{last_place}
use Rattle.name_rules.proofs.NamePlaces.{front_more, front_length}

last_snoc_passes : {A : Type 0} (test : A → Bool) (xs : List A) (x : A) → test x ≡ true → last_place test (xs ++ x ∷ []) ≡ Some (length xs)
last_snoc_passes test [] x passes = ap (λ b. option_or (option_map (λ place. place + 1) None) (cond b (Some 0) None)) passes
last_snoc_passes test (y ∷ xs) x passes =
    ap (λ found. option_or (option_map (λ place. place + 1) found) (cond (test y) (Some 0) None)) (last_snoc_passes test xs x passes) ∙ ap Some (omega arith)

last_snoc_fails : {A : Type 0} (test : A → Bool) (xs : List A) (x : A) → test x ≡ false → last_place test (xs ++ x ∷ []) ≡ last_place test xs
last_snoc_fails test [] x fails = ap (λ b. option_or (option_map (λ place. place + 1) None) (cond b (Some 0) None)) fails
last_snoc_fails test (y ∷ xs) x fails =
    ap (λ found. option_or (option_map (λ place. place + 1) found) (cond (test y) (Some 0) None)) (last_snoc_fails test xs x fails)

-- the last item passes
pub last_place_at : {A : Type 0} (test : A → Bool) (i : ℕ) (xs : List A) (x : A) → i < length xs → x ≡ get_or xs i x → test x ≡ true → last_place test (take (i + 1) xs) ≡ Some i
last_place_at test i xs x less is passes =
    ap (last_place test) (front_more i xs x less is) ∙ last_snoc_passes test (take i xs) x passes ∙ ap Some (front_length i xs less)

-- the last item fails
pub last_place_before : {A : Type 0} (test : A → Bool) (i : ℕ) (xs : List A) (x : A) → i < length xs → x ≡ get_or xs i x → test x ≡ false → last_place test (take (i + 1) xs) ≡ last_place test (take i xs)
last_place_before test i xs x less is fails = ap (last_place test) (front_more i xs x less is) ∙ last_snoc_fails test (take i xs) x fails

-- the same from the place behind the item
pub last_at_place : {A : Type 0} (test : A → Bool) (behind : ℕ) (xs : List A) (x : A) → 0 < behind → behind ≤ length xs → x ≡ get_or xs (behind - 1) x → test x ≡ true →
    last_place test (take behind xs) ≡ Some (behind - 1)
last_at_place test behind xs x some within is passes =
    ap (λ count. last_place test (take count xs)) (omega (arith, some)) ∙ last_place_at test (behind - 1) xs x (omega (arith, some, within)) is passes

pub last_before_place : {A : Type 0} (test : A → Bool) (behind : ℕ) (xs : List A) (x : A) → 0 < behind → behind ≤ length xs → x ≡ get_or xs (behind - 1) x → test x ≡ false →
    last_place test (take behind xs) ≡ last_place test (take (behind - 1) xs)
last_before_place test behind xs x some within is fails =
    ap (λ count. last_place test (take count xs)) (omega (arith, some)) ∙ last_place_before test (behind - 1) xs x (omega (arith, some, within)) is fails
