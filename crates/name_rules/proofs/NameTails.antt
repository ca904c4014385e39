-- A test that some tail of a list passes, by how many items are dropped.
use Rattle.std.proofs.Common.{◌≡◌, ℕ, zero, suc, ◌≤◌, Bool, true, List, [], ◌∷◌, length, drop, refl, ⊎_elim, arith}
use Rattle.std.proofs.lemmas.Bool.{or_cases, or_left, or_right}
use Rattle.std.specs.List.{list_any}
use Rattle.name_rules.specs.NameRules.{stands_for, tails}

pub some_tail : (test : List ℕ → Bool) (count : ℕ) (items : List ℕ) → test (drop count items) ≡ true → list_any test (tails items) ≡ true
some_tail test zero [] h = or_left _ _ h
some_tail test (suc count) [] h = or_left _ _ h
some_tail test zero (item ∷ items) h = or_left _ _ h
some_tail test (suc count) (item ∷ items) h = or_right _ _ (some_tail test count items h)

pub tail_that : (test : List ℕ → Bool) (items : List ℕ) → list_any test (tails items) ≡ true →
    (count : ℕ) × (count ≤ length items) × (test (drop count items) ≡ true)
tail_that test [] h = (0, omega arith, ⊎_elim (λ here. here) (λ never. absurd cc) (or_cases _ _ h))
tail_that test (item ∷ items) h =
    ⊎_elim (λ here. (0, omega arith, here))
    (λ later. let found = tail_that test items later in (suc found.0, omega (arith, found.1), found.2))
    (or_cases (test (item ∷ items)) _ h)

-- what is left of any text is nothing, at its end
pub nothing_left : (characters : List ℕ) → list_any (stands_for []) (tails characters) ≡ true
nothing_left [] = refl
nothing_left (character ∷ characters) = nothing_left characters
