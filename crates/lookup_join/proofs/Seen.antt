-- A step of a walk that keeps each item once, by a set of keys.
use Rattle.std.proofs.Common.{◌≡◌, ℕ, Bool, true, false, not, cond, ◌||◌, ◌&&◌, List, [], ◌∷◌, ◌++◌, refl, sym, ap, ◌∙◌}
use Rattle.std.specs.Prelude.{if◌then◌else◌}
use Rattle.std.specs.Borrow.{Bor}
use Rattle.std.specs.BTreeSet.{BTreeSet, contains, Updates}
use Rattle.std.specs.Cmp.Lexicographic.{slice_cmp}
use Rattle.std.specs.List.{list_any}
use Rattle.std.specs.Ordering.{is_eq, nat_cmp, ordering_then}
use Rattle.std.specs.Str.{bytes_eq}
use Rattle.std.specs.declared.cmp.Ordering.{Ordering}
use Rattle.std.specs.declared.cmp.Ordering.TheVariants.{Less, Equal, Greater}
use Rattle.std.proofs.lemmas.List.Folds.{list_any-append}
use Rattle.std.proofs.lemmas.Map.Text.{is_eq-slice_cmp}
use Rattle.std.proofs.lemmas.Slice.Eq.{bytes_eq-Decides}
use Rattle.function_rules.specs.Lists.{distinct_of}
use Rattle.function_rules.proofs.ListsDistinct.{distinct_push}
use Rattle.lookup_join.specs.declared.joins.JoinAt.{JoinAt}
use Rattle.lookup_join.specs.Extended.{same_join}

either_last : (here earlier : Bool) → cond here true earlier ≡ (earlier || (here || false))
either_last true true = refl
either_last true false = refl
either_last false true = refl
either_last false false = refl

from_not : (answer known : Bool) → not answer ≡ known → answer ≡ not known
from_not true known is = ap not is
from_not false known is = ap not is

module _ {Key Item : Type 0} (same : Item → Item → Bool) (symm : (one other : Item) → same one other ≡ same other one) (compare : Key → Key → Ordering) (item_of : Key → Item)
    (agrees : (one other : Key) → is_eq (compare one other) ≡ same (item_of one) (item_of other)) where
  -- the set knows the items, and no others
  abbrev pub Knows : BTreeSet Key → List Item → Type 0
  Knows seen items = (sought : Key) → contains compare seen sought ≡ list_any (λ earlier. same (item_of sought) earlier) items

  -- a set that knows some items knows one more
  pub known_more : (old new : BTreeSet Key) (items : List Item) (key : Key) → Knows old items → Updates compare old new key true → Knows new (items ++ item_of key ∷ [])
  known_more old new items key known updates sought =
      updates.0 sought
      ∙ ap (λ earlier. cond (is_eq (compare key sought)) true earlier) (known sought)
      ∙ ap (λ here. cond here true (list_any (λ earlier. same (item_of sought) earlier) items)) (agrees key sought ∙ symm (item_of key) (item_of sought))
      ∙ either_last (same (item_of sought) (item_of key)) (list_any (λ earlier. same (item_of sought) earlier) items)
      ∙ sym (list_any-append (λ earlier. same (item_of sought) earlier) items (item_of key ∷ []))

  both_sides : (items : List Item) (item : Item) → list_any (λ earlier. same earlier item) items ≡ list_any (λ earlier. same item earlier) items
  both_sides items item = ap (λ (test : Item → Bool). list_any test items) (λ i earlier. symm earlier item i)

  distinct_more : (items : List Item) (item : Item) (known : Bool) → list_any (λ earlier. same item earlier) items ≡ known
      → distinct_of same (items ++ item ∷ []) ≡ (if known then distinct_of same items else distinct_of same items ++ item ∷ [])
  distinct_more items item known is =
      distinct_push same items item
      ∙ ap (λ answer. if answer then distinct_of same items else distinct_of same items ++ item ∷ []) (both_sides items item ∙ is)

  pub kept_new : (seen : BTreeSet Key) (items kept : List Item) (key : Key) → kept ≡ distinct_of same items → Knows seen items → not (contains compare seen key) ≡ true
      → kept ++ item_of key ∷ [] ≡ distinct_of same (items ++ item_of key ∷ [])
  kept_new seen items kept key so_far known is =
      ap (λ (these : List Item). these ++ item_of key ∷ []) so_far
      ∙ sym (distinct_more items (item_of key) false (sym (known key) ∙ from_not (contains compare seen key) true is))

  pub kept_known : (seen : BTreeSet Key) (items kept : List Item) (key : Key) → kept ≡ distinct_of same items → Knows seen items → not (contains compare seen key) ≡ false
      → kept ≡ distinct_of same (items ++ item_of key ∷ [])
  kept_known seen items kept key so_far known is =
      so_far ∙ sym (distinct_more items (item_of key) true (sym (known key) ∙ from_not (contains compare seen key) false is))

-- Names -----------------------------------------------------------------------------------------------------------------------

abbrev pub Name : Type 0
Name = Bor (List ℕ)

abbrev pub compare_names : Name → Name → Ordering
compare_names one other = slice_cmp nat_cmp one.now other.now

abbrev pub name_of : Name → List ℕ
name_of name = name.now

pub names_agree : (one other : Name) → is_eq (compare_names one other) ≡ bytes_eq (name_of one) (name_of other)
names_agree one other = is_eq-slice_cmp one.now other.now

true_both : (one other : Bool) → (one ≡ true → other ≡ true) → (other ≡ true → one ≡ true) → one ≡ other
true_both true other to from = sym (to refl)
true_both false true to from = from refl
true_both false false to from = refl

pub bytes_symm : (one other : List ℕ) → bytes_eq one other ≡ bytes_eq other one
bytes_symm one other =
    true_both (bytes_eq one other) (bytes_eq other one)
    (λ is. (bytes_eq-Decides other one).1 (sym ((bytes_eq-Decides one other).0 is)))
    (λ is. (bytes_eq-Decides one other).1 (sym ((bytes_eq-Decides other one).0 is)))

-- Pairs -----------------------------------------------------------------------------------------------------------------------

abbrev pub Pair : Type 0
Pair = Name × Name

abbrev pub compare_pairs : Pair → Pair → Ordering
compare_pairs one other = ordering_then (compare_names one.0 other.0) (compare_names one.1 other.1)

abbrev pub join_of : Pair → JoinAt
join_of pair = record { table = pair.0.now; column = pair.1.now }

both_equal : (one other : Ordering) → is_eq (ordering_then one other) ≡ (is_eq one && is_eq other)
both_equal Less other = refl
both_equal Equal other = refl
both_equal Greater other = refl

pub pairs_agree : (one other : Pair) → is_eq (compare_pairs one other) ≡ same_join (join_of one) (join_of other)
pairs_agree one other =
    both_equal (compare_names one.0 other.0) (compare_names one.1 other.1)
    ∙ ap (λ (here : Bool). here && is_eq (compare_names one.1 other.1)) (names_agree one.0 other.0)
    ∙ ap (λ (here : Bool). bytes_eq one.0.now other.0.now && here) (names_agree one.1 other.1)

pub joins_symm : (one other : JoinAt) → same_join one other ≡ same_join other one
joins_symm one other =
    ap (λ (here : Bool). here && bytes_eq one.column other.column) (bytes_symm one.table other.table)
    ∙ ap (λ (here : Bool). bytes_eq other.table one.table && here) (bytes_symm one.column other.column)
