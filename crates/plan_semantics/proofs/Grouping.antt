-- Each row is in the groups of its keys alone.
use Rattle.std.proofs.Common.{◌≡◌, ℕ, zero, suc, Bool, true, false, min, pos, List, [], ◌∷◌, ◌++◌, map, filter, length, All, Contains, refl, ap, sym, subst, ◌∙◌, if◌then◌else◌}
use Rattle.std.specs.Prelude.{not}
use Rattle.std.specs.Bool.{Decides}
use Rattle.std.specs.Cmp.{IsEquivalence, decided}
use Rattle.std.specs.List.{flat_map, list_any, AllByRecursion, IsDistinct}
use Rattle.std.proofs.lemmas.Bool.{and_parts, and_from}
use Rattle.std.proofs.lemmas.List.{append-nil, length-map}
use Rattle.std.proofs.lemmas.List.Elements.{All-nil, All-cons, All-weaker, All-contains, Contains-append_left, Contains-append_right, Contains-push}
use Rattle.std.proofs.lemmas.Map.Keys.{IsDistinct-head, IsDistinct-tail, IsDistinct-cons}
use Rattle.std.proofs.lemmas.Map.Views.{list_any-from_Contains, Contains-from_any}
use Rattle.esql_types.specs.declared.value.Value.{Value}
use Rattle.esql_types.specs.declared.value.Value.TheVariants.{Long}
use Rattle.function_rules.specs.Lists.{distinct_of}
use Rattle.esql_plan.specs.declared.function.AggFunction.{AggFunction}
use Rattle.esql_plan.specs.declared.function.AggFunction.TheVariants.{CountRows}
use Rattle.esql_plan.specs.declared.step.Aggregate.{Aggregate}
use Rattle.esql_plan.specs.declared.step.Step.TheVariants.{Stats}
use Rattle.esql_plan.specs.Values.{NumberedRow}
use Rattle.plan_semantics.specs.Tables.{CatalogHeld, empty_row}
use Rattle.plan_semantics.specs.Groups.{same_value, same_list, same_key, Key, keys_of_cells, Entry, keys_of_entry, keys_of_groups, entries_of_key, aggregate_of, values_at}
use Rattle.plan_semantics.specs.Stats.{entries_of}
use Rattle.plan_semantics.specs.Steps.{step_rows}
use Rattle.plan_semantics.proofs.RowKinds.{put_there}
use Rattle.plan_semantics.proofs.SameValues.{value_decides}

-- keys that are equal ---------------------------------------------------------------------------------------------------------

module _ {Item : Type 0} (same : Item → Item → Bool) (decides : (this that : Item) → Decides (same this that) (this ≡ that)) where
  list_equal : (these those : List Item) → same_list same these those ≡ true → these ≡ those
  list_equal [] [] is = refl
  list_equal [] (that ∷ those) is = absurd cc
  list_equal (this ∷ these) [] is = absurd cc
  list_equal (this ∷ these) (that ∷ those) is =
      let parts = and_parts (same this that) (same_list same these those) is in
      let first : this ≡ that = (decides this that).0 parts.0 in
      let rest : these ≡ those = list_equal these those parts.1 in
      λ i. first i ∷ rest i

  list_itself : (these : List Item) → same_list same these these ≡ true
  list_itself [] = refl
  list_itself (this ∷ these) = and_from (same this this) (same_list same these these) ((decides this this).1 refl) (list_itself these)

  list_decides : (these those : List Item) → Decides (same_list same these those) (these ≡ those)
  list_decides these those = (list_equal these those, λ equal. ap (same_list same these) (sym equal) ∙ list_itself these)

key_decides : (this that : Key) → Decides (same_key this that) (this ≡ that)
key_decides = list_decides (same_list same_value) (list_decides same_value value_decides)

key_equivalence : IsEquivalence same_key
key_equivalence = decided same_key key_decides

-- items of lists ------------------------------------------------------------------------------------------------------------------

module _ {Item : Type 0} where
  has_first : (item : Item) (items : List Item) → Contains (item ∷ items) item
  has_first item items = Contains-append_left (item ∷ []) items item (Contains-push [] item)

  has_later : (item : Item) (items : List Item) (other : Item) → Contains items other → Contains (item ∷ items) other
  has_later item items other there = Contains-append_right (item ∷ []) items other there

  module _ (test : Item → Bool) where
    abbrev IsKept : List Item → Item → Type 0
    IsKept items item = test item ≡ true → Contains (filter test items) item

    -- a list with an item in front of it, or without
    abbrev kept : Bool → Item → List Item → List Item
    kept b item others = if b then item ∷ others else others

    keep_first : (item : Item) (items others : List Item) (b : Bool) → test item ≡ b → All (λ other. test other ≡ true → Contains others other) items
        → All (λ other. test other ≡ true → Contains (kept b item others) other) (item ∷ items)
    keep_first item items others true is all =
        let P : Item → Type 0 = λ other. test other ≡ true → Contains (item ∷ others) other in
        All-cons P item items (λ passes. has_first item others) (All-weaker (λ other. test other ≡ true → Contains others other) P (λ other so passes. has_later item others other (so passes)) items all)
    keep_first item items others false is all =
        let P : Item → Type 0 = λ other. test other ≡ true → Contains others other in
        All-cons P item items (λ passes. absurd (let never : false ≡ true = sym is ∙ passes in cc)) all

    all_kept : (items : List Item) → All (IsKept items) items
    all_kept [] = All-nil (IsKept [])
    all_kept (item ∷ items) = keep_first item items (filter test items) (test item) refl (all_kept items)

    pass_first : (item : Item) (others : List Item) (b : Bool) → test item ≡ b → All (λ item. test item ≡ true) others → All (λ item. test item ≡ true) (kept b item others)
    pass_first item others true is all = All-cons (λ item. test item ≡ true) item others is all
    pass_first item others false is all = all

    all_pass : (items : List Item) → All (λ item. test item ≡ true) (filter test items)
    all_pass [] = All-nil (λ item. test item ≡ true)
    all_pass (item ∷ items) = pass_first item (filter test items) (test item) refl (all_pass items)

    filter_all : (P : Item → Type 0) (items : List Item) → AllByRecursion P items → AllByRecursion P (filter test items)
    filter_all P [] all = tt
    filter_all P (item ∷ items) all = elim (test item) as (λ b. AllByRecursion P (kept b item (filter test items))) [ true ↦ (all.0, filter_all P items all.1) | false ↦ filter_all P items all.1 ]

    filter_once : (same : Item → Item → Bool) (items : List Item) → IsDistinct same items → IsDistinct same (filter test items)
    filter_once same [] once = once
    filter_once same (item ∷ items) once =
        elim (test item) as (λ b. IsDistinct same (kept b item (filter test items))) [
          | true ↦ IsDistinct-cons same item (filter test items) (filter_all (λ one. same item one ≡ false) items (IsDistinct-head same item items once))
              (filter_once same items (IsDistinct-tail same item items once))
          | false ↦ filter_once same items (IsDistinct-tail same item items once)
        ]

  module _ (same : Item → Item → Bool) (decides : (this that : Item) → Decides (same this that) (this ≡ that)) where
    abbrev differs : Item → Item → Bool
    differs item other = not (same item other)

    -- an item that others stand behind, or one of the others
    first_or_later : (item other : Item) (others : List Item) (b : Bool) → same item other ≡ b → Contains others other → Contains (item ∷ filter (differs item) others) other
    first_or_later item other others true is there =
        subst (λ one. Contains (item ∷ filter (differs item) others) one) ((decides item other).0 is) (has_first item (filter (differs item) others))
    first_or_later item other others false is there =
        has_later item (filter (differs item) others) other (All-contains (IsKept (differs item) others) others other (all_kept (differs item) others) there (ap not is))

    all_distinct : (items : List Item) → All (λ item. Contains (distinct_of same items) item) items
    all_distinct [] = All-nil (λ item. Contains (distinct_of same []) item)
    all_distinct (item ∷ items) =
        All-cons (λ other. Contains (distinct_of same (item ∷ items)) other) item items (has_first item (filter (differs item) (distinct_of same items)))
        (All-weaker (λ other. Contains (distinct_of same items) other) (λ other. Contains (distinct_of same (item ∷ items)) other)
        (λ other there. first_or_later item other (distinct_of same items) (same item other) refl there) items (all_distinct items))

    differ_first : (item other : Item) (others : List Item) (b : Bool) → same item other ≡ b → AllByRecursion (λ one. same item one ≡ false) others
        → AllByRecursion (λ one. same item one ≡ false) (if not b then other ∷ others else others)
    differ_first item other others true is all = all
    differ_first item other others false is all = (is, all)

    all_differ : (item : Item) (others : List Item) → AllByRecursion (λ one. same item one ≡ false) (filter (differs item) others)
    all_differ item [] = tt
    all_differ item (other ∷ others) = differ_first item other (filter (differs item) others) (same item other) refl (all_differ item others)

    distinct_once : (items : List Item) → IsDistinct same (distinct_of same items)
    unfolding IsDistinct
    distinct_once [] = tt
    distinct_once (item ∷ items) =
        IsDistinct-cons same item (filter (differs item) (distinct_of same items)) (all_differ item (distinct_of same items))
        (filter_once (differs item) same (distinct_of same items) (distinct_once items))

-- what a list of an item has is in the lists of all items
flat_has : {A B : Type 0} (f : A → List B) (b : B) (items : List A) → All (λ item. Contains (f item) b → Contains (flat_map f items) b) items
flat_has {A} f b [] = All-nil (λ (item : A). Contains (f item) b → Contains (flat_map f []) b)
flat_has {A} f b (item ∷ items) =
    All-cons (λ (other : A). Contains (f other) b → Contains (f item ++ flat_map f items) b) item items
    (λ there. Contains-append_left (f item) (flat_map f items) b there)
    (All-weaker (λ (other : A). Contains (f other) b → Contains (flat_map f items) b) (λ (other : A). Contains (f other) b → Contains (f item ++ flat_map f items) b)
    (λ other so there. Contains-append_right (f item) (flat_map f items) b (so there)) items (flat_has f b items))

-- groups ----------------------------------------------------------------------------------------------------------------------------

pub key_has_group : (columns : ℕ) (entries : List Entry) (entry : Entry) (key : Key) → Contains entries entry → Contains (keys_of_entry entry) key
    → Contains (keys_of_groups (suc columns) entries) key
key_has_group columns entries entry key there own =
    let keys : List Key = flat_map keys_of_entry entries in
    All-contains (λ (key : Key). Contains (distinct_of same_key keys) key) keys key (all_distinct same_key key_decides keys)
    (All-contains (λ (entry : Entry). Contains (keys_of_entry entry) key → Contains keys key) entries entry (flat_has keys_of_entry key entries) there own)

pub groups_differ : (columns : ℕ) (entries : List Entry) → IsDistinct same_key (keys_of_groups columns entries)
groups_differ zero entries = distinct_once same_key key_decides ([] ∷ [])
groups_differ (suc columns) entries = distinct_once same_key key_decides (flat_map keys_of_entry entries)

module _ (entries : List Entry) (entry : Entry) (key : Key) where
  abbrev is_of_key : Entry → Bool
  is_of_key one = list_any (same_key key) (keys_of_entry one)

  pub row_in_group : Contains entries entry → Contains (keys_of_entry entry) key → Contains (entries_of_key key entries) entry
  row_in_group there own = All-contains (IsKept is_of_key entries) entries entry (all_kept is_of_key entries) there (list_any-from_Contains key_equivalence key (keys_of_entry entry) own)

  pub row_in_no_other : Contains (entries_of_key key entries) entry → Contains (keys_of_entry entry) key
  row_in_no_other there =
      Contains-from_any (λ this that is. (key_decides this that).0 is) key (keys_of_entry entry)
      (All-contains (λ (one : Entry). is_of_key one ≡ true) (entries_of_key key entries) entry (all_pass is_of_key entries) there)

pub one_key : (values : List Value) → keys_of_cells (map (λ (value : Value). value ∷ []) values) ≡ map (λ (value : Value). value ∷ []) values ∷ []
one_key [] = refl
one_key (value ∷ values) =
    append-nil (map (λ (more : Key). (value ∷ []) ∷ more) (keys_of_cells (map (λ (value : Value). value ∷ []) values)))
    ∙ ap (map (λ (more : Key). (value ∷ []) ∷ more)) (one_key values)

-- one group of all rows -----------------------------------------------------------------------------------------------------------------

all_in : (aggregates : List Aggregate) (rows : List NumberedRow) → entries_of_key [] (entries_of aggregates [] rows) ≡ entries_of aggregates [] rows
all_in aggregates [] = refl
all_in aggregates (row ∷ rows) = λ i. entries_of aggregates [] (row ∷ []) ++ all_in aggregates rows i

pub all_counted : (held : CatalogHeld) → (count : Aggregate) (rows : List NumberedRow) → count.function ≡ CountRows
    → map (λ (row : NumberedRow). row count.to.0) (step_rows held (Stats (count ∷ []) []) rows) ≡ (Long (pos (min (length rows) 9223372036854775807)) ∷ []) ∷ []
all_counted held count rows counts =
    let entries : List Entry = entries_of (count ∷ []) [] rows in
    let own : List Entry = entries_of_key [] entries in
    ap (λ (cell : List Value). cell ∷ []) (
    put_there empty_row count.to.0 (aggregate_of count.function (length own) (values_at 0 own)).cell
    ∙ ap (λ (function : AggFunction). (aggregate_of function (length own) (values_at 0 own)).cell) counts
    ∙ ap (λ (these : List Entry). Long (pos (min (length these) 9223372036854775807)) ∷ []) (all_in (count ∷ []) rows)
    ∙ ap (λ (number : ℕ). Long (pos (min number 9223372036854775807)) ∷ []) (length-map rows _)
    )
