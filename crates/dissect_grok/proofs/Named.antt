-- Names by their numbers.
use Rattle.std.proofs.Common.{◌≡◌, ℕ, zero, suc, ◌+◌, ◌||◌, not, Bool, true, false, cond, List, [], ◌∷◌, ◌++◌, length, take, map, replicate, get_or, Option, Some, None, option_map, is_some, refl, sym, ap, subst, ◌∙◌, arith, ◌<◌, if◌then◌else◌}
use Rattle.std.specs.Borrow.{Bor}
use Rattle.std.specs.BTreeMap.{BTreeMap, UpdatesBy}
use Rattle.std.specs.Cmp.Lexicographic.{slice_cmp}
use Rattle.std.specs.List.{list_any, slice_set, slice_index_or}
use Rattle.std.specs.Ordering.{nat_cmp}
use Rattle.std.specs.Str.{bytes_eq}
use Rattle.std.proofs.lemmas.Cmp.{nat_list_eq_equiv}
use Rattle.std.proofs.lemmas.List.{take_more, length-take-le}
use Rattle.std.proofs.lemmas.Slice.Eq.{bytes_eq-Decides}
use Rattle.std.proofs.lemmas.Map.Text.{btree_map_updates_str}
use Rattle.dissect_grok.specs.Numbered.{AreDistinct, IsIndex, number_at, number_of, number_or, put_at}

abbrev pub Numbers : Type 0
Numbers = BTreeMap (Bor (List ℕ)) ℕ

pub same_names : (this that : List ℕ) → bytes_eq this that ≡ true → this ≡ that
same_names this that is = (bytes_eq-Decides this that).0 is

pub itself : (name : List ℕ) → bytes_eq name name ≡ true
itself name = (bytes_eq-Decides name name).1 refl

-- a name that was not there
pub number_added : (old new : Numbers) (name : List ℕ) (number : ℕ) →
    UpdatesBy (λ x y. slice_cmp nat_cmp x.now y.now) (λ key. slice_cmp nat_cmp name key.now) old new (Some number) → is_some (number_at old name) ≡ false →
    (other : List ℕ) → number_at new other ≡ number_or (number_at old other) name number other
number_added old new name number changes absent other =
    btree_map_updates_str name old new (Some number) changes other ∙ by_same (bytes_eq name other) refl (number_at old other) refl
  where
    by_same : (same : Bool) → bytes_eq name other ≡ same → (known : Option ℕ) → number_at old other ≡ known → cond same (Some number) known ≡ number_or known name number other
    by_same true is None known_is = rw is
    by_same true is (Some known) known_is =
        let some : is_some (number_at old name) ≡ true = ap (λ (this : List ℕ). is_some (number_at old this)) (same_names name other is) ∙ ap is_some known_is in
        absurd cc
    by_same false is None known_is = rw is
    by_same false is (Some known) known_is = refl

-- a name that was there
pub number_kept : (old : Numbers) (name : List ℕ) (number : ℕ) → is_some (number_at old name) ≡ true →
    (other : List ℕ) → number_at old other ≡ number_or (number_at old other) name number other
number_kept old name number present other = by_known (number_at old other) refl
  where
    by_same : (same : Bool) → bytes_eq name other ≡ same → number_at old other ≡ None → None ≡ cond same (Some number) None
    by_same true is none =
        let some : is_some (number_at old name) ≡ false = ap (λ (this : List ℕ). is_some (number_at old this)) (same_names name other is) ∙ ap is_some none in
        absurd cc
    by_same false is none = refl

    by_known : (known : Option ℕ) → number_at old other ≡ known → known ≡ number_or known name number other
    by_known None is = by_same (bytes_eq name other) refl is
    by_known (Some known) is = refl

-- one name more
pub number_of-push : (names : List (List ℕ)) (name other : List ℕ) → number_of (names ++ name ∷ []) other ≡ number_or (number_of names other) name (length names) other
number_of-push [] name other = refl
number_of-push (first ∷ rest) name other = by_same (bytes_eq first other) (number_of rest other) (number_of-push rest name other)
  where
    raised : (known : Option ℕ) → option_map suc (number_or known name (length rest) other) ≡ number_or (option_map suc known) name (suc (length rest)) other
    raised (Some known) = refl
    raised None = by_last (bytes_eq name other)
      where
        by_last : (same : Bool) → option_map suc (cond same (Some (length rest)) None) ≡ cond same (Some (suc (length rest))) None
        by_last true = refl
        by_last false = refl

    by_same : (same : Bool) (known : Option ℕ) → number_of (rest ++ name ∷ []) other ≡ number_or known name (length rest) other →
        cond same (Some 0) (option_map suc (number_of (rest ++ name ∷ []) other)) ≡ number_or (cond same (Some 0) (option_map suc known)) name (suc (length rest)) other
    by_same true known is = refl
    by_same false known is = ap (option_map suc) is ∙ raised known

-- a name has a number where it is among the names
pub numbered_is_among : (names : List (List ℕ)) (name : List ℕ) → is_some (number_of names name) ≡ list_any (bytes_eq name) names
numbered_is_among [] name = refl
numbered_is_among (first ∷ rest) name =
    by_same (bytes_eq first name) (number_of rest name) (numbered_is_among rest name)
    ∙ ap (λ (same : Bool). same || list_any (bytes_eq name) rest) (nat_list_eq_equiv.symm first name)
  where
    by_same : (same : Bool) (known : Option ℕ) → is_some known ≡ list_any (bytes_eq name) rest → is_some (cond same (Some 0) (option_map suc known)) ≡ (same || list_any (bytes_eq name) rest)
    by_same true known is = refl
    by_same false None is = is
    by_same false (Some known) is = is

-- an index, and a name that is put into it
pub index_more : (names : List (List ℕ)) (old new : Numbers) (name : List ℕ) → IsIndex names old → is_some (number_at old name) ≡ false →
    ((other : List ℕ) → number_at new other ≡ number_or (number_at old other) name (length names) other) → IsIndex (names ++ name ∷ []) new
index_more names old new name is absent now other =
    now other ∙ ap (λ (known : Option ℕ). number_or known name (length names) other) (is other) ∙ sym (number_of-push names name other)

pub index_same : (names : List (List ℕ)) (old new : Numbers) (name : List ℕ) (number : ℕ) → IsIndex names old → is_some (number_at old name) ≡ true →
    ((other : List ℕ) → number_at new other ≡ number_or (number_at old other) name number other) → IsIndex names new
index_same names old new name number is present now other = now other ∙ sym (number_kept old name number present other) ∙ is other

pub is_among : (names : List (List ℕ)) (index : Numbers) (name : List ℕ) → IsIndex names index → is_some (number_at index name) ≡ list_any (bytes_eq name) names
is_among names index name is = ap is_some (is name) ∙ numbered_is_among names name

-- names that are distinct
among_more : (name other : List ℕ) (names : List (List ℕ)) → list_any (bytes_eq name) names ≡ false → bytes_eq name other ≡ false → list_any (bytes_eq name) (names ++ other ∷ []) ≡ false
among_more name other [] none differ = by_same (bytes_eq name other) differ
  where
    by_same : (same : Bool) → same ≡ false → (same || false) ≡ false
    by_same true is = is
    by_same false is = refl
among_more name other (first ∷ rest) none differ = by_same (bytes_eq name first) none (λ is. among_more name other rest is differ)
  where
    by_same : (same : Bool) → (same || list_any (bytes_eq name) rest) ≡ false →
        (list_any (bytes_eq name) rest ≡ false → list_any (bytes_eq name) (rest ++ other ∷ []) ≡ false) → (same || list_any (bytes_eq name) (rest ++ other ∷ [])) ≡ false
    by_same true is more = is
    by_same false is more = more is

left_false : (left right : Bool) → (left || right) ≡ false → left ≡ false
left_false true right is = is
left_false false right is = refl

right_false : (left right : Bool) → (left || right) ≡ false → right ≡ false
right_false true right is = absurd cc
right_false false right is = is

pub distinct_more : (names : List (List ℕ)) (name : List ℕ) → AreDistinct names → list_any (bytes_eq name) names ≡ false → AreDistinct (names ++ name ∷ [])
distinct_more [] name distinct none = (refl, tt)
distinct_more (first ∷ rest) name distinct none = (
  among_more first name rest distinct.0 (nat_list_eq_equiv.symm first name ∙ left_false (bytes_eq name first) (list_any (bytes_eq name) rest) none),
  distinct_more rest name distinct.1 (right_false (bytes_eq name first) (list_any (bytes_eq name) rest) none),
)

-- a list for each name
pub no_items : {Item : Type 0} (names : List (List ℕ)) → replicate (length names) [] ≡ map (λ (name : List ℕ). let none : List Item = [] in none) names
no_items [] = refl
no_items {Item} (name ∷ names) = ap (λ (lists : List (List Item)). [] ∷ lists) (no_items names)

pub nothing_more : {Item : Type 0} (list : List Item) → list ++ [] ≡ list
nothing_more [] = refl
nothing_more {Item} (first ∷ rest) = ap (λ (more : List Item). first ∷ more) (nothing_more rest)

same_lists : {Item : Type 0} (own : List ℕ) (item : Item) (before after : List ℕ → List Item) →
    ((name : List ℕ) → after name ≡ before name ++ (if bytes_eq name own then item ∷ [] else [])) →
    (names : List (List ℕ)) → list_any (bytes_eq own) names ≡ false → map before names ≡ map after names
same_lists own item before after added [] none = refl
same_lists {Item} own item before after added (name ∷ names) none =
    let differ : bytes_eq name own ≡ false = nat_list_eq_equiv.symm name own ∙ left_false (bytes_eq own name) (list_any (bytes_eq own) names) none in
    let here : before name ≡ after name = sym (added name ∙ ap (λ (same : Bool). before name ++ (if same then item ∷ [] else [])) differ ∙ nothing_more (before name)) in
    ap (λ (list : List Item). list ∷ map before names) here
    ∙ ap (λ (lists : List (List Item)). after name ∷ lists) (same_lists own item before after added names (right_false (bytes_eq own name) (list_any (bytes_eq own) names) none))

-- the item of a name goes to the list of that name, where no two names are the same
pub item_put : {Item : Type 0} (own : List ℕ) (item : Item) (before after : List ℕ → List Item) →
    ((name : List ℕ) → after name ≡ before name ++ (if bytes_eq name own then item ∷ [] else [])) →
    (names : List (List ℕ)) → AreDistinct names → put_at (number_of names own) (map before names) item ≡ map after names
item_put own item before after added [] distinct = refl
item_put {Item} own item before after added (name ∷ names) distinct = by_same (bytes_eq name own) refl (number_of names own) (item_put own item before after added names distinct.1)
  where
    others : (lists : List (List Item)) → bytes_eq name own ≡ false → lists ≡ map after names → before name ∷ lists ≡ after name ∷ map after names
    others lists is rest =
        ap (λ (list : List Item). list ∷ lists) (sym (added name ∙ ap (λ (same : Bool). before name ++ (if same then item ∷ [] else [])) is ∙ nothing_more (before name)))
        ∙ ap (λ (more : List (List Item)). after name ∷ more) rest

    by_same : (same : Bool) → bytes_eq name own ≡ same → (known : Option ℕ) → put_at known (map before names) item ≡ map after names →
        put_at (if same then Some 0 else option_map suc known) (before name ∷ map before names) item ≡ after name ∷ map after names
    by_same true is known rest =
        let none : list_any (bytes_eq own) names ≡ false = ap (λ (this : List ℕ). list_any (bytes_eq this) names) (sym (same_names name own is)) ∙ distinct.0 in
        ap (λ (list : List Item). list ∷ map before names) (sym (added name ∙ ap (λ (same : Bool). before name ++ (if same then item ∷ [] else [])) is))
        ∙ ap (λ (lists : List (List Item)). after name ∷ lists) (same_lists own item before after added names none)
    by_same false is None rest = others (map before names) is rest
    by_same false is (Some number) rest = others (put_at (Some number) (map before names) item) is rest

-- a walk over names
pub one_more : (names : List (List ℕ)) (number : ℕ) (item own other : List ℕ) (known : Option ℕ) → number < length names → item ≡ get_or names number item → own ≡ item →
    known ≡ number_of (take number names) other → number_or known own number other ≡ number_of (take (number + 1) names) other
one_more names number item own other known below is named known_is =
    ap (λ (this : Option ℕ). number_or this own number other) known_is
    ∙ ap (λ (this : List ℕ). number_or (number_of (take number names) other) this number other) named
    ∙ ap (λ (this : ℕ). number_or (number_of (take number names) other) item this other) (sym (length-take-le number names (omega arith)))
    ∙ sym (number_of-push (take number names) item other)
    ∙ ap (λ (these : List (List ℕ)). number_of these other) (sym (take_more names number item below ∙ ap (λ (this : List ℕ). take number names ++ this ∷ []) (sym is)))

pub not_true : (answer : Bool) → not answer ≡ true → answer ≡ false
not_true true is = absurd cc
not_true false is = refl

pub not_false : (answer : Bool) → not answer ≡ false → answer ≡ true
not_false true is = refl
not_false false is = absurd cc
