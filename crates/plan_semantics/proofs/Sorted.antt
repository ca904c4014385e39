-- Sorting passes through maps.
use Rattle.std.proofs.Common.{◌≡◌, true, false, List, [], ◌∷◌, map, refl, ap, ◌∙◌, if◌then◌else◌}
use Rattle.std.specs.Ordering.{is_gt}
use Rattle.std.specs.declared.cmp.Ordering.{Ordering}
use Rattle.function_rules.specs.Lists.{put_in_order, sorted_by}

module _ {A B : Type 0} (order : B → B → Ordering) (on : A → B) where
  -- the order of what items are mapped to
  abbrev pub through : A → A → Ordering
  through this that = order (on this) (on that)

  put_mapped : (item : A) (items : List A) → map on (put_in_order through item items) ≡ put_in_order order (on item) (map on items)
  put_mapped item [] = refl
  put_mapped item (first ∷ rest) = elim (is_gt (order (on item) (on first)))
      as (λ b. map on (if b then first ∷ put_in_order through item rest else item ∷ first ∷ rest)
      ≡ (if b then on first ∷ put_in_order order (on item) (map on rest) else on item ∷ on first ∷ map on rest))
      [ true ↦ ap (λ these. on first ∷ these) (put_mapped item rest) | false ↦ refl ]

  pub sorted_mapped : (items : List A) → map on (sorted_by through items) ≡ sorted_by order (map on items)
  sorted_mapped [] = refl
  sorted_mapped (item ∷ items) = put_mapped item (sorted_by through items) ∙ ap (put_in_order order (on item)) (sorted_mapped items)
