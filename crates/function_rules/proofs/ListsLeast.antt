-- The least value of a list is one of its values, and none stands before it; and so of the greatest.
use Rattle.std.proofs.Common.{◌≡◌, Bool, false, List, [], ◌∷◌, refl, sym, ap, ◌∙◌, subst, get_or}
use Rattle.std.specs.Ordering.{is_lt, is_gt, ordering_reverse}
use Rattle.std.specs.Cmp.{IsTotalOrder, IsStrictWeakOrder}
use Rattle.std.specs.List.{All, Contains, best_of}
use Rattle.std.specs.declared.cmp.Ordering.{Ordering}
use Rattle.std.specs.declared.cmp.Ordering.TheVariants.{Less, Equal, Greater}
use Rattle.std.proofs.lemmas.List.{get_or_default}
use Rattle.std.proofs.lemmas.List.Elements.{Contains-get_or}
use Rattle.std.proofs.lemmas.List.MinMax.{IsFirstBest-from_best_of}
use Rattle.std.proofs.lemmas.List.Sorted.{IsStrictWeakOrder-flip, ranks_by}
use Rattle.function_rules.specs.Lists.{greatest_from, greatest_of, least_from, least_of}

module _ {Item : Type 0} where
  best_stands : {beats : Item → Item → Bool} (weak : IsStrictWeakOrder beats) (first : Item) (others : List Item)
      → Contains (first ∷ others) (best_of beats first others) × All (λ item. beats item (best_of beats first others) ≡ false) (first ∷ others)
  best_stands {beats} weak first others =
      let found = IsFirstBest-from_best_of weak first others in
      let place = found.0 in
      let items = first ∷ others in (
        subst (Contains items) found.2 (Contains-get_or items place first found.1.0),
        λ k d within.
            let same : get_or items place d ≡ best_of beats first others = get_or_default items place d first found.1.0 ∙ found.2 in
            ap (beats (get_or items k d)) (sym same) ∙ found.1.1 k d within,
      )

  module _ (order : Item → Item → Ordering) where
    least_as_best : (items : List Item) (best : Item) → best_of (λ x y. is_lt (order x y)) best items ≡ least_from order best items
    least_as_best [] best = refl
    least_as_best (item ∷ items) best = least_as_best items _

    greatest_as_best : (items : List Item) (best : Item) → best_of (λ x y. is_gt (order x y)) best items ≡ greatest_from order best items
    greatest_as_best [] best = refl
    greatest_as_best (item ∷ items) best = greatest_as_best items _

    lt_reversed : (answer : Ordering) → is_lt (ordering_reverse answer) ≡ is_gt answer
    lt_reversed Less = refl
    lt_reversed Equal = refl
    lt_reversed Greater = refl

    module _ (total : IsTotalOrder order) where
      weak_lt : IsStrictWeakOrder (λ x y. is_lt (order x y))
      weak_lt = ranks_by total (λ x. x)

      weak_gt : IsStrictWeakOrder (λ x y. is_gt (order x y))
      weak_gt =
          subst IsStrictWeakOrder (λ i x y. (ap is_lt (total.antisymm y x) ∙ lt_reversed (order x y)) i)
          (IsStrictWeakOrder-flip (λ x y. is_lt (order x y)) weak_lt)

      pub least_of_least : (items : List Item) (best : Item) → least_of order items ≡ best ∷ []
          → Contains items best × All (λ item. is_lt (order item best) ≡ false) items
      least_of_least [] best is = cc
      least_of_least (first ∷ others) best is =
          let same : best_of (λ x y. is_lt (order x y)) first others ≡ best = least_as_best others first ∙ cc in
          subst (λ x. Contains (first ∷ others) x × All (λ item. is_lt (order item x) ≡ false) (first ∷ others)) same
          (best_stands weak_lt first others)

      pub greatest_of_greatest : (items : List Item) (best : Item) → greatest_of order items ≡ best ∷ []
          → Contains items best × All (λ item. is_gt (order item best) ≡ false) items
      greatest_of_greatest [] best is = cc
      greatest_of_greatest (first ∷ others) best is =
          let same : best_of (λ x y. is_gt (order x y)) first others ≡ best = greatest_as_best others first ∙ cc in
          subst (λ x. Contains (first ∷ others) x × All (λ item. is_gt (order item x) ≡ false) (first ∷ others)) same
          (best_stands weak_gt first others)
