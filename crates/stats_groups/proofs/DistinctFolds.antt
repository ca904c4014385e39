-- Distinct values by one pass over values.
use Rattle.std.proofs.Common.{◌≡◌, Bool, List, [], ◌∷◌, ◌++◌, sym, ap, ◌∙◌, append_assoc}
use Rattle.std.specs.Prelude.{if◌then◌else◌, fold}
use Rattle.std.specs.Cmp.{IsEquivalence}
use Rattle.std.specs.List.{list_any}
use Rattle.std.proofs.lemmas.List.{append-nil}
use Rattle.function_rules.specs.Lists.{distinct_of}
use Rattle.function_rules.proofs.ListsDistinct.{distinct_push, distinct_keeps}
use Rattle.indexmap.specs.IndexSet.{insert_key}

module _ {Item : Type 0} (same : Item → Item → Bool) (laws : IsEquivalence same) where
  -- the question may be asked from either side
  pub any_turned : (items : List Item) (item : Item) → list_any (λ earlier. same earlier item) items ≡ list_any (same item) items
  any_turned items item = ap (λ (test : Item → Bool). list_any test items) (λ i earlier. laws.symm earlier item i)

  pub insert_one : (done : List Item) (item : Item) → insert_key same (distinct_of same done) item ≡ distinct_of same (done ++ item ∷ [])
  insert_one done item =
      ap (λ known. if known then distinct_of same done else distinct_of same done ++ item ∷ [])
      (sym (any_turned (distinct_of same done) item) ∙ distinct_keeps same laws done item)
      ∙ sym (distinct_push same done item)

  insert_more : (more done : List Item) → fold (insert_key same) (distinct_of same done) more ≡ distinct_of same (done ++ more)
  insert_more [] done = ap (distinct_of same) (sym (append-nil done))
  insert_more (item ∷ more) done =
      ap (λ kept. fold (insert_key same) kept more) (insert_one done item)
      ∙ insert_more more (done ++ item ∷ [])
      ∙ ap (distinct_of same) (append_assoc done (item ∷ []) more)

  pub distinct_by_fold : (items : List Item) → fold (insert_key same) [] items ≡ distinct_of same items
  distinct_by_fold items = insert_more items []
