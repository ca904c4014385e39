-- A list without its repeats has each of its values once, by its first place.
use Rattle.std.proofs.Common.{◌≡◌, Bool, true, false, not, cond, ◌||◌, List, [], ◌∷◌, ◌++◌, refl, sym, ap, ◌∙◌, true≢false}
use Rattle.std.specs.Prelude.{if◌then◌else◌}
use Rattle.std.specs.Cmp.{IsEquivalence}
use Rattle.std.specs.List.{filter, list_any, AllByRecursion, IsDistinct}
use Rattle.std.proofs.lemmas.List.{append-nil}
use Rattle.std.proofs.lemmas.List.Elements.{filter-append}
use Rattle.function_rules.specs.Lists.{distinct_of}

module _ {Item : Type 0} (same : Item → Item → Bool) where
  pushed_at : (kept here : Bool) (first item : Item) (rest : List Item) → same first item ≡ here
      → distinct_of same (rest ++ item ∷ []) ≡ (if kept then distinct_of same rest else distinct_of same rest ++ item ∷ [])
      → distinct_of same (first ∷ rest ++ item ∷ [])
      ≡ (if here || kept then distinct_of same (first ∷ rest) else distinct_of same (first ∷ rest) ++ item ∷ [])
  pushed_at true true first item rest is more = rw more refl
  pushed_at true false first item rest is more = rw more refl
  pushed_at false true first item rest is more =
      rw (more, filter-append (λ other. not (same first other)) (distinct_of same rest) (item ∷ []), is)
      (ap (λ items. first ∷ items) (append-nil (filter (λ other. not (same first other)) (distinct_of same rest))))
  pushed_at false false first item rest is more =
      rw (more, filter-append (λ other. not (same first other)) (distinct_of same rest) (item ∷ []), is) refl

  -- a value comes last where none before it is the same, and else not at all
  pub distinct_push : (items : List Item) (item : Item)
      → distinct_of same (items ++ item ∷ [])
      ≡ (if list_any (λ earlier. same earlier item) items then distinct_of same items else distinct_of same items ++ item ∷ [])
  distinct_push [] item = refl
  distinct_push (first ∷ rest) item =
      pushed_at (list_any (λ earlier. same earlier item) rest) (same first item) first item rest refl (distinct_push rest item)

  all_filter : (P : Item → Type 0) (test : Item → Bool) (items : List Item) → AllByRecursion P items → AllByRecursion P (filter test items)
  all_filter P test [] all = all
  all_filter P test (item ∷ items) all = go (test item) (all_filter P test items all.1)
    where
      go : (passes : Bool) → AllByRecursion P (filter test items) → AllByRecursion P (cond passes (item ∷ filter test items) (filter test items))
      go true later = (all.0, later)
      go false later = later

  differ_filter : (item : Item) (items : List Item) → AllByRecursion (λ other. same item other ≡ false) (filter (λ other. not (same item other)) items)
  differ_filter item [] = tt
  differ_filter item (first ∷ rest) = go (same item first) refl (differ_filter item rest)
    where
      go : (here : Bool) → same item first ≡ here → AllByRecursion (λ other. same item other ≡ false) (filter (λ other. not (same item other)) rest)
          → AllByRecursion (λ other. same item other ≡ false) (cond (not here) (first ∷ filter (λ other. not (same item other)) rest) (filter (λ other. not (same item other)) rest))
      go true is later = later
      go false is later = (is, later)

  distinct_filter : (test : Item → Bool) (items : List Item) → IsDistinct same items → IsDistinct same (filter test items)
  unfolding IsDistinct
  distinct_filter test [] apart = apart
  distinct_filter test (item ∷ items) apart = go (test item) (distinct_filter test items apart.1)
    where
      go : (passes : Bool) → IsDistinct same (filter test items) → IsDistinct same (cond passes (item ∷ filter test items) (filter test items))
      go true later = (all_filter (λ other. same item other ≡ false) test items apart.0, later)
      go false later = later

  pub distinct_once : (items : List Item) → IsDistinct same (distinct_of same items)
  unfolding IsDistinct
  distinct_once [] = tt
  distinct_once (item ∷ items) =
      (differ_filter item (distinct_of same items), distinct_filter (λ other. not (same item other)) (distinct_of same items) (distinct_once items))

  module _ (laws : IsEquivalence same) where
    -- a test that passes wherever the question is asked does not change the answer
    any_filter : (asked test : Item → Bool) (items : List Item) → ((item : Item) → asked item ≡ true → test item ≡ true)
        → list_any asked (filter test items) ≡ list_any asked items
    any_filter asked test [] passes = refl
    any_filter asked test (item ∷ items) passes = go (test item) (asked item) refl refl (any_filter asked test items passes)
      where
        go : (in_test in_asked : Bool) → test item ≡ in_test → asked item ≡ in_asked → list_any asked (filter test items) ≡ list_any asked items
            → list_any asked (cond in_test (item ∷ filter test items) (filter test items)) ≡ (in_asked || list_any asked items)
        go true in_asked is asks later = ap (λ answer. asked item || answer) later ∙ ap (λ answer. answer || list_any asked items) asks
        go false true is asks later = absurd (true≢false (sym (passes item asks) ∙ is))
        go false false is asks later = later

    -- where the first value is not the same as the sought one, no value that is the same as the first is the same as it
    apart_from_first : (first sought item : Item) → same first sought ≡ false → same item sought ≡ true → not (same first item) ≡ true
    apart_from_first first sought item differs is = go (same first item) refl
      where
        go : (answer : Bool) → same first item ≡ answer → not answer ≡ true
        go true alike = absurd (true≢false (sym (laws.congr first item sought alike ∙ is) ∙ differs))
        go false alike = refl

    kept_at : (here : Bool) (first sought : Item) (rest : List Item) → same first sought ≡ here
        → list_any (λ kept. same kept sought) (distinct_of same rest) ≡ list_any (λ item. same item sought) rest
        → (here || list_any (λ kept. same kept sought) (filter (λ other. not (same first other)) (distinct_of same rest)))
        ≡ (here || list_any (λ item. same item sought) rest)
    kept_at true first sought rest is later = refl
    kept_at false first sought rest is later =
        any_filter (λ kept. same kept sought) (λ other. not (same first other)) (distinct_of same rest)
        (λ item alike. apart_from_first first sought item is alike)
        ∙ later

    pub distinct_keeps : (items : List Item) (sought : Item)
        → list_any (λ kept. same kept sought) (distinct_of same items) ≡ list_any (λ item. same item sought) items
    distinct_keeps [] sought = refl
    distinct_keeps (first ∷ rest) sought = kept_at (same first sought) first sought rest refl (distinct_keeps rest sought)
