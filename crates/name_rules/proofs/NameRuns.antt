-- Where parts without a run are first found behind a run, no later place of them has to be tried: what is left behind a later
-- place is left behind the first one too.
use Rattle.std.proofs.Common.{◌≡◌, ℕ, ◌+◌, ◌==◌, true, List, [], ◌∷◌, ◌++◌, length, drop, refl, sym, ap, ◌∙◌, arith}
use Rattle.std.proofs.lemmas.List.{drop-drop, drop_at}
use Rattle.std.proofs.lemmas.Bool.{and_parts}
use Rattle.std.proofs.lemmas.Bool.Decides.{same_from_decides}
use Rattle.std.specs.List.{list_any}
use Rattle.name_rules.specs.NameRules.{NamePart, any_run, itself, stands_for, tails}
use Rattle.name_rules.specs.NameFronts.{have_no_run}
use Rattle.name_rules.proofs.NameTails.{some_tail, tail_that}

pub behind_fixed : (fixed parts : List NamePart) (taken left : List ℕ) → have_no_run fixed ≡ true → stands_for fixed taken ≡ true →
    stands_for (fixed ++ parts) (taken ++ left) ≡ stands_for parts left
behind_fixed [] parts [] left no_run stands = refl
behind_fixed [] parts (character ∷ taken) left no_run stands = absurd cc
behind_fixed (any_run ∷ fixed) parts taken left no_run stands = absurd cc
behind_fixed (itself own ∷ fixed) parts [] left no_run stands = absurd cc
behind_fixed (itself own ∷ fixed) parts (character ∷ taken) left no_run stands =
    let both = and_parts (own == character) (stands_for fixed taken) stands in
    rw both.0 (behind_fixed fixed parts taken left no_run both.1)

-- each of them stands for one character
as_many : (fixed : List NamePart) (taken : List ℕ) → have_no_run fixed ≡ true → stands_for fixed taken ≡ true → length fixed ≡ length taken
as_many [] [] no_run stands = refl
as_many [] (character ∷ taken) no_run stands = absurd cc
as_many (any_run ∷ fixed) taken no_run stands = absurd cc
as_many (itself own ∷ fixed) [] no_run stands = absurd cc
as_many (itself own ∷ fixed) (character ∷ taken) no_run stands =
    omega (arith, as_many fixed taken no_run (and_parts (own == character) (stands_for fixed taken) stands).1)

passed : (fixed parts : List NamePart) (characters : List ℕ) → have_no_run fixed ≡ true → stands_for (fixed ++ parts) characters ≡ true →
    stands_for parts (drop (length fixed) characters) ≡ true
passed [] parts characters no_run stands = stands
passed (any_run ∷ fixed) parts characters no_run stands = absurd cc
passed (itself own ∷ fixed) parts [] no_run stands = absurd cc
passed (itself own ∷ fixed) parts (character ∷ characters) no_run stands =
    passed fixed parts characters no_run (and_parts (own == character) (stands_for (fixed ++ parts) characters) stands).1

module _ (fixed parts : List NamePart) (taken left : List ℕ) (no_run : have_no_run fixed ≡ true) (stands : stands_for fixed taken ≡ true) where
  left_behind : (place more : ℕ) → drop more (drop (length fixed) (drop place (taken ++ left))) ≡ drop (place + more) left
  left_behind place more =
      drop-drop more (length fixed) (drop place (taken ++ left))
      ∙ drop-drop (length fixed + more) place (taken ++ left)
      ∙ ap (λ count. drop count (taken ++ left)) (omega (arith, as_many fixed taken no_run stands))
      ∙ sym (drop-drop (place + more) (length taken) (taken ++ left))
      ∙ ap (drop (place + more)) (drop_at taken left (length taken) refl)

  forth : list_any (stands_for (fixed ++ any_run ∷ parts)) (tails (taken ++ left)) ≡ true → list_any (stands_for parts) (tails left) ≡ true
  forth h =
      let found = tail_that (stands_for (fixed ++ any_run ∷ parts)) (taken ++ left) h in
      let run = passed fixed (any_run ∷ parts) _ no_run found.2 in
      let then = tail_that (stands_for parts) _ run in
      some_tail (stands_for parts) (found.0 + then.0) left (ap (stands_for parts) (sym (left_behind found.0 then.0)) ∙ then.2)

  back : list_any (stands_for parts) (tails left) ≡ true → list_any (stands_for (fixed ++ any_run ∷ parts)) (tails (taken ++ left)) ≡ true
  back h = some_tail (stands_for (fixed ++ any_run ∷ parts)) 0 (taken ++ left) (behind_fixed fixed (any_run ∷ parts) taken left no_run stands ∙ h)

  pub first_suffices : list_any (stands_for (fixed ++ any_run ∷ parts)) (tails (taken ++ left)) ≡ list_any (stands_for parts) (tails left)
  first_suffices = same_from_decides {P = list_any (stands_for parts) (tails left) ≡ true} _ _ (forth, back) (λ h. h, λ h. h)
