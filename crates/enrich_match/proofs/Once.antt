-- Places in order that are the same places are equal.
use Rattle.std.proofs.Common.{◌≡◌, ℕ, ◌<◌, Bool, true, false, ◌||◌, List, [], ◌∷◌, ⊎_elim, refl, sym, ap, subst, ◌∙◌, arith, true≢false}
use Rattle.std.specs.Prelude.{⊤, nat_eq}
use Rattle.std.specs.List.{AllByRecursion, list_any}
use Rattle.std.specs.List.Sorted.{IsStrictlySortedBy}
use Rattle.std.specs.Ordering.{nat_cmp}
use Rattle.std.specs.declared.cmp.Ordering.TheVariants.{Less}
use Rattle.std.proofs.lemmas.Bool.{cases_lt, eq-eqb, eqb-true, ne_eqb}
use Rattle.std.proofs.lemmas.Cmp.{nat_eq_equiv, ranked}
use Rattle.std.proofs.lemmas.Map.Keys.{sorted_from_strictly_increasing}
use Rattle.std.proofs.lemmas.Map.Views.{Contains-from_any, list_any-from_Contains}
use Rattle.enrich_match.specs.Places.{IsEachOnce}

-- each place is above those before it
unfoldable pub Rises : List ℕ → Type 0
Rises [] = ⊤
Rises (place ∷ places) = AllByRecursion (λ later. place < later) places × Rises places

less_of : (place : ℕ) (places : List ℕ) → AllByRecursion (λ later. nat_cmp place later ≡ Less) places → AllByRecursion (λ later. place < later) places
less_of place [] all = tt
less_of place (later ∷ places) all = (ranked place later Less (sym all.0), less_of place places all.1)

rises_from_sorted : (places : List ℕ) → IsStrictlySortedBy nat_cmp places → Rises places
unfolding IsStrictlySortedBy Rises
rises_from_sorted [] sorted = tt
rises_from_sorted (place ∷ places) sorted = (less_of place places sorted.0, rises_from_sorted places sorted.1)

abbrev pub has : List ℕ → ℕ → Bool
has places place = list_any (nat_eq place) places

absent : (place : ℕ) (places : List ℕ) → AllByRecursion (λ later. place < later) places → has places place ≡ false
absent place [] below = refl
absent place (later ∷ places) below =
    let apart : nat_eq place later ≡ false = ne_eqb place later (λ same. omega (arith, below.0)) in
    ap (λ (here : Bool). here || has places place) apart ∙ absent place places below.1

lower : (low place : ℕ) (places : List ℕ) → low < place → AllByRecursion (λ later. place < later) places → AllByRecursion (λ later. low < later) places
lower low place [] less below = tt
lower low place (later ∷ places) less below = (omega (arith, less, below.0), lower low place places less below.1)

here_in : (place : ℕ) (places : List ℕ) → has (place ∷ places) place ≡ true
here_in place places = ap (λ (here : Bool). here || has places place) (eq-eqb place place refl)

-- a list that begins with a lower place is not the same
not_lower : (place other : ℕ) (places others : List ℕ) → place < other → AllByRecursion (λ later. other < later) others
    → has (place ∷ places) place ≡ has (other ∷ others) place → ⊥
not_lower place other places others less above same =
    true≢false (sym (here_in place places) ∙ same ∙ absent place (other ∷ others) (less, lower place other others less above))

-- lists that begin with one place are the same behind it
behind_same : (place : ℕ) (places others : List ℕ) → AllByRecursion (λ later. place < later) places → AllByRecursion (λ later. place < later) others
    → ((at : ℕ) → has (place ∷ places) at ≡ has (place ∷ others) at) → (at : ℕ) → has places at ≡ has others at
behind_same place places others above beyond same at = go (nat_eq at place) refl
  where
    go : (first : Bool) → nat_eq at place ≡ first → has places at ≡ has others at
    go true here =
        let at_place : at ≡ place = eqb-true at place here in
        ap (has places) at_place ∙ absent place places above ∙ sym (ap (has others) at_place ∙ absent place others beyond)
    go false here = subst (λ (first : Bool). (first || has places at) ≡ (first || has others at)) here (same at)

first_same : (place other : ℕ) (places others : List ℕ) → AllByRecursion (λ later. place < later) places → AllByRecursion (λ later. other < later) others
    → ((at : ℕ) → has (place ∷ places) at ≡ has (other ∷ others) at) → place ≡ other
first_same place other places others above beyond same =
    ⊎_elim (λ less. absurd (not_lower place other places others less beyond (same place)))
    (λ more. ⊎_elim (λ less. absurd (not_lower other place others places less above (sym (same other))))
    (λ less. omega (arith, more, less)) (cases_lt other place)) (cases_lt place other)

once : (places others : List ℕ) → Rises places → Rises others → ((place : ℕ) → has places place ≡ has others place) → places ≡ others
unfolding Rises
once [] [] rises rise same = refl
once [] (other ∷ others) rises rise same = absurd (true≢false (sym (here_in other others) ∙ sym (same other)))
once (place ∷ places) [] rises rise same = absurd (true≢false (sym (here_in place places) ∙ same place))
once (place ∷ places) (other ∷ others) rises rise same =
    let is : place ≡ other = first_same place other places others rises.0 rise.0 same in
    let above : AllByRecursion (λ later. place < later) others = subst (λ (first : ℕ). AllByRecursion (λ later. first < later) others) (sym is) rise.0 in
    let whole : (at : ℕ) → has (place ∷ places) at ≡ has (place ∷ others) at = λ at. same at ∙ ap (λ (first : ℕ). nat_eq at first || has others at) (sym is) in
    let rest : places ≡ others = once places others rises.1 rise.1 (behind_same place places others rises.0 above whole) in
    λ i. is i ∷ rest i

both_ways : (this that : Bool) → (this ≡ true → that ≡ true) → (that ≡ true → this ≡ true) → this ≡ that
both_ways true that to from = sym (to refl)
both_ways false true to from = from refl
both_ways false false to from = refl

-- places each once and in order are those that rise and are the same
pub each_once : (others places rising : List ℕ) → IsEachOnce others places → Rises rising → ((place : ℕ) → has others place ≡ has rising place) → places ≡ rising
each_once others places rising once_each rises same =
    once places rising (rises_from_sorted places (sorted_from_strictly_increasing places once_each.rises)) rises (λ place.
    both_ways (has places place) (has others place)
    (λ yes. list_any-from_Contains nat_eq_equiv place others (once_each.adds_none place (Contains-from_any eqb-true place places yes)))
    (λ yes. list_any-from_Contains nat_eq_equiv place places (once_each.keeps place (Contains-from_any eqb-true place others yes)))
    ∙ same place)
