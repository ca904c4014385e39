-- What a pair of RENAME does to columns that are found by their names.
use Rattle.std.proofs.Common.{◌≡◌, ◌⊎◌, inl, inr, ℕ, zero, suc, ◌+◌, ◌<◌, Bool, true, false, not, ◌||◌, cond, List, [], ◌∷◌, ◌++◌, length, map, filter, is_some, Option, Some, None, refl, sym, ap, subst, ◌∙◌, append_assoc, arith, rules}
use Rattle.std.specs.List.{slice_get, slice_set, list_any}
use Rattle.std.specs.Str.{bytes_eq}
use Rattle.std.proofs.lemmas.Bool.{cases_eq}
use Rattle.std.proofs.lemmas.List.Elements.{filter-append}
use Rattle.std.proofs.lemmas.Slice.Eq.{bytes_eq-Decides}
use Rattle.esql_ast.specs.declared.query.RenamePair.{RenamePair}
use Rattle.name_rules.specs.NameRules.{Renaming, is_named, stays, with_new_name, rename_pair, is_there}
use Rattle.name_rules.specs.Renames.{named_by, renames_seen, AreInverse, let_go, called, IsLetGo, IsCalled, IsWithout, IsMoved}
use Rattle.name_rules.proofs.RenamePlaces.{some_is, set_here, set_other, within_some}

same_name : (one other : List ℕ) → bytes_eq one other ≡ true → one ≡ other
same_name one other is = (bytes_eq-Decides one other).0 is

own_name : (name : List ℕ) → bytes_eq name name ≡ true
own_name name = (bytes_eq-Decides name name).1 refl

other_by : (one other : List ℕ) (same : Bool) → bytes_eq other one ≡ same → bytes_eq one other ≡ false → bytes_eq other one ≡ false
other_by one other true is apart = let same = (bytes_eq-Decides one other).1 (sym (same_name other one is)) in absurd cc
other_by one other false is apart = is

pub other_way : (one other : List ℕ) → bytes_eq one other ≡ false → bytes_eq other one ≡ false
other_way one other apart = other_by one other (bytes_eq other one) refl apart

none_some : {A : Type 0} (x : A) → None ≡ Some x → ⊥
none_some x is = absurd cc

-- a name is let go ----------------------------------------------------------------------------------------------------------

-- what has another name is as it was
apart_go : (name : List ℕ) (held : Option (Option (List ℕ))) → (held ≡ Some (Some name) → ⊥) → held ≡ let_go name held
apart_go name None apart = refl
apart_go name (Some None) apart = refl
apart_go name (Some (Some own)) apart = by_name (bytes_eq own name) refl
  where
    by_name : (same : Bool) → bytes_eq own name ≡ same → Some (Some own) ≡ cond same (Some None) (Some (Some own))
    by_name true is = absurd (apart (ap (λ (this : List ℕ). Some (Some this)) (same_name own name is)))
    by_name false is = refl

here_go : (name : List ℕ) (held : Option (Option (List ℕ))) → held ≡ Some (Some name) → let_go name held ≡ Some None
here_go name held is = ap (let_go name) is ∙ ap (λ (same : Bool). cond same (Some None) (Some (Some name))) (own_name name)

pub goes_not : (names : List (Option (List ℕ))) (place_of : List ℕ → Option ℕ) (name : List ℕ) → AreInverse names place_of → place_of name ≡ None → IsLetGo name names names
goes_not names place_of name inverse none place = apart_go name (slice_get names place) (λ is. none_some place (sym none ∙ inverse.found name place is))

pub goes : (names new : List (Option (List ℕ))) (place_of : List ℕ → Option ℕ) (name : List ℕ) (place : ℕ) → AreInverse names place_of → place_of name ≡ Some place
    → new ≡ slice_set names place None → IsLetGo name names new
goes names new place_of name place inverse is set other = ap (λ (these : List (Option (List ℕ))). slice_get these other) set ∙ by_place (cases_eq other place)
  where
    by_place : (other ≡ place) ⊎ (other ≡ place → ⊥) → slice_get (slice_set names place None) other ≡ let_go name (slice_get names other)
    by_place (inl same) =
        ap (slice_get (slice_set names place None)) same
        ∙ set_here names place None (within_some names place (Some name) (inverse.stands name place is))
        ∙ sym (here_go name (slice_get names other) (ap (slice_get names) same ∙ inverse.stands name place is))
    by_place (inr apart) =
        set_other names place other None apart
        ∙ apart_go name (slice_get names other) (λ has. apart (some_is other place (sym (inverse.found name other has) ∙ is)))

-- a name is called otherwise ------------------------------------------------------------------------------------------------

apart_call : (before after : List ℕ) (held : Option (Option (List ℕ))) → (held ≡ Some (Some before) → ⊥) → held ≡ called before after held
apart_call before after None apart = refl
apart_call before after (Some None) apart = refl
apart_call before after (Some (Some own)) apart = by_name (bytes_eq own before) refl
  where
    by_name : (same : Bool) → bytes_eq own before ≡ same → Some (Some own) ≡ cond same (Some (Some after)) (Some (Some own))
    by_name true is = absurd (apart (ap (λ (this : List ℕ). Some (Some this)) (same_name own before is)))
    by_name false is = refl

here_call : (before after : List ℕ) (held : Option (Option (List ℕ))) → held ≡ Some (Some before) → called before after held ≡ Some (Some after)
here_call before after held is = ap (called before after) is ∙ ap (λ (same : Bool). cond same (Some (Some after)) (Some (Some before))) (own_name before)

pub calls_not : (names : List (Option (List ℕ))) (place_of : List ℕ → Option ℕ) (before after : List ℕ) → AreInverse names place_of → place_of before ≡ None
    → IsCalled before after names names
calls_not names place_of before after inverse none place = apart_call before after (slice_get names place) (λ is. none_some place (sym none ∙ inverse.found before place is))

pub calls : (names new : List (Option (List ℕ))) (place_of : List ℕ → Option ℕ) (before after name : List ℕ) (place : ℕ) → AreInverse names place_of → place_of before ≡ Some place
    → name ≡ after → new ≡ slice_set names place (Some name) → IsCalled before after names new
calls names new place_of before after name place inverse is same_after set other =
    ap (λ (these : List (Option (List ℕ))). slice_get these other) (set ∙ ap (λ (this : List ℕ). slice_set names place (Some this)) same_after) ∙ by_place (cases_eq other place)
  where
    by_place : (other ≡ place) ⊎ (other ≡ place → ⊥) → slice_get (slice_set names place (Some after)) other ≡ called before after (slice_get names other)
    by_place (inl same) =
        ap (slice_get (slice_set names place (Some after))) same
        ∙ set_here names place (Some after) (within_some names place (Some before) (inverse.stands before place is))
        ∙ sym (here_call before after (slice_get names other) (ap (slice_get names) same ∙ inverse.stands before place is))
    by_place (inr apart) =
        set_other names place other (Some after) apart
        ∙ apart_call before after (slice_get names other) (λ has. apart (some_is other place (sym (inverse.found before other has) ∙ is)))

-- the places afterwards -----------------------------------------------------------------------------------------------------

-- what is left of a place has the name that it had, and not the one that was let go
left_name : (name own : List ℕ) (held : Option (Option (List ℕ))) → let_go name held ≡ Some (Some own) → (held ≡ Some (Some own)) × (bytes_eq name own ≡ false)
left_name name own None is = absurd cc
left_name name own (Some None) is = absurd cc
left_name name own (Some (Some this)) is = by_name (bytes_eq this name) refl is
  where
    by_name : (same : Bool) → bytes_eq this name ≡ same → cond same (Some None) (Some (Some this)) ≡ Some (Some own) → (Some (Some this) ≡ Some (Some own)) × (bytes_eq name own ≡ false)
    by_name true same now = absurd cc
    by_name false same now =
        let own_is : this ≡ own = some_is this own (some_is (Some this) (Some own) now) in
        (now, ap (λ (one : List ℕ). bytes_eq name one) (sym own_is) ∙ other_way this name same)

pub inverse_without : (names new : List (Option (List ℕ))) (old_of new_of : List ℕ → Option ℕ) (name : List ℕ) → AreInverse names old_of → IsLetGo name names new → IsWithout name old_of new_of
    → AreInverse new new_of
inverse_without names new old_of new_of name inverse gone without = record {
  stands = λ own place is. stands_by own place (bytes_eq name own) refl (sym (without own) ∙ is);
  found = λ own place is.
      let left = left_name name own (slice_get names place) (sym (gone place) ∙ is) in
      without own ∙ ap (λ (same : Bool). cond same None (old_of own)) left.1 ∙ inverse.found own place left.0;
}
  where
    stands_by : (own : List ℕ) (place : ℕ) (same : Bool) → bytes_eq name own ≡ same → cond same None (old_of own) ≡ Some place → slice_get new place ≡ Some (Some own)
    stands_by own place true named is = absurd cc
    stands_by own place false named is =
        gone place ∙ ap (let_go name) (inverse.stands own place is) ∙ ap (λ (same : Bool). cond same (Some None) (Some (Some own))) (other_way name own named)

-- what is called otherwise has its old name or the new one
new_name : (before after own : List ℕ) (held : Option (Option (List ℕ))) → called before after held ≡ Some (Some own)
    → ((held ≡ Some (Some before)) × (after ≡ own)) ⊎ ((held ≡ Some (Some own)) × (bytes_eq before own ≡ false))
new_name before after own None is = absurd cc
new_name before after own (Some None) is = absurd cc
new_name before after own (Some (Some this)) is = by_name (bytes_eq this before) refl is
  where
    by_name : (same : Bool) → bytes_eq this before ≡ same → cond same (Some (Some after)) (Some (Some this)) ≡ Some (Some own)
        → ((Some (Some this) ≡ Some (Some before)) × (after ≡ own)) ⊎ ((Some (Some this) ≡ Some (Some own)) × (bytes_eq before own ≡ false))
    by_name true same now = inl (ap (λ (one : List ℕ). Some (Some one)) (same_name this before same), some_is after own (some_is (Some after) (Some own) now))
    by_name false same now =
        let own_is : this ≡ own = some_is this own (some_is (Some this) (Some own) now) in
        inr (now, ap (λ (one : List ℕ). bytes_eq before one) (sym own_is) ∙ other_way this before same)

pub inverse_moved : (names new : List (Option (List ℕ))) (old_of new_of : List ℕ → Option ℕ) (before after : List ℕ) → AreInverse names old_of → old_of after ≡ None
    → IsCalled before after names new → IsMoved before after old_of new_of → AreInverse new new_of
inverse_moved names new old_of new_of before after inverse free is_called moved = record {
  stands = λ own place is. stands_by own place (bytes_eq after own) (bytes_eq before own) refl refl (sym (moved own) ∙ is);
  found = λ own place is. found_by own place (new_name before after own (slice_get names place) (sym (is_called place) ∙ is));
}
  where
    stands_by : (own : List ℕ) (place : ℕ) (is_after is_before : Bool) → bytes_eq after own ≡ is_after → bytes_eq before own ≡ is_before
        → cond is_after (old_of before) (cond is_before None (old_of own)) ≡ Some place → slice_get new place ≡ Some (Some own)
    stands_by own place true is_before same named is =
        is_called place ∙ here_call before after (slice_get names place) (inverse.stands before place is) ∙ ap (λ (this : List ℕ). Some (Some this)) (same_name after own same)
    stands_by own place false true same named is = absurd cc
    stands_by own place false false same named is =
        is_called place ∙ ap (called before after) (inverse.stands own place is) ∙ ap (λ (same : Bool). cond same (Some (Some after)) (Some (Some own))) (other_way before own named)

    found_by : (own : List ℕ) (place : ℕ) → ((slice_get names place ≡ Some (Some before)) × (after ≡ own)) ⊎ ((slice_get names place ≡ Some (Some own)) × (bytes_eq before own ≡ false))
        → new_of own ≡ Some place
    found_by own place (inl (has, same)) =
        moved own
        ∙ ap (λ (this : Bool). cond this (old_of before) (cond (bytes_eq before own) None (old_of own))) ((bytes_eq-Decides after own).1 same)
        ∙ inverse.found before place has
    found_by own place (inr (has, apart)) = moved own ∙ other_found (bytes_eq after own) refl
      where
        other_found : (is_after : Bool) → bytes_eq after own ≡ is_after → cond is_after (old_of before) (cond (bytes_eq before own) None (old_of own)) ≡ Some place
        other_found true same = absurd (none_some place (sym free ∙ ap old_of (same_name after own same) ∙ inverse.found own place has))
        other_found false same = ap (λ (this : Bool). cond this None (old_of own)) apart ∙ inverse.found own place has

-- each name is found at a place of its own
abbrev pub AreOwn : List ℕ → (List ℕ → Option ℕ) → Type 0
AreOwn firsts place_of = (name : List ℕ) (place : ℕ) → place_of name ≡ Some place → slice_get firsts place ≡ Some place

pub own_without : (firsts : List ℕ) (old_of new_of : List ℕ → Option ℕ) (name : List ℕ) → AreOwn firsts old_of → IsWithout name old_of new_of → AreOwn firsts new_of
own_without firsts old_of new_of name own without other place is = by_name (bytes_eq name other) (sym (without other) ∙ is)
  where
    by_name : (same : Bool) → cond same None (old_of other) ≡ Some place → slice_get firsts place ≡ Some place
    by_name true now = absurd cc
    by_name false now = own other place now

pub own_moved : (firsts : List ℕ) (old_of new_of : List ℕ → Option ℕ) (before after : List ℕ) → AreOwn firsts old_of → IsMoved before after old_of new_of → AreOwn firsts new_of
own_moved firsts old_of new_of before after own moved other place is = by_name (bytes_eq after other) (bytes_eq before other) (sym (moved other) ∙ is)
  where
    by_name : (is_after is_before : Bool) → cond is_after (old_of before) (cond is_before None (old_of other)) ≡ Some place → slice_get firsts place ≡ Some place
    by_name true is_before now = own before place now
    by_name false true now = absurd cc
    by_name false false now = own other place now

-- the columns afterwards ----------------------------------------------------------------------------------------------------

map_both : (f : Renaming → Renaming) (xs ys : List Renaming) → map f (xs ++ ys) ≡ map f xs ++ map f ys
map_both f [] ys = refl
map_both f (x ∷ xs) ys = ap (λ (these : List Renaming). f x ∷ these) (map_both f xs ys)

pair_both : (pair : RenamePair) (xs ys : List Renaming) → rename_pair (xs ++ ys) pair ≡ rename_pair xs pair ++ rename_pair ys pair
pair_both pair xs ys = ap (map (with_new_name pair)) (filter-append (stays pair) xs ys) ∙ map_both (with_new_name pair) (filter (stays pair) xs) (filter (stays pair) ys)

-- one column
one_pair : (pair : RenamePair) (place : ℕ) (held : Option (Option (List ℕ))) → bytes_eq pair.before.name pair.after.name ≡ false
    → named_by (called pair.before.name pair.after.name (let_go pair.after.name held)) place ≡ rename_pair (named_by held place) pair
one_pair pair place None differ = refl
one_pair pair place (Some None) differ = refl
one_pair pair place (Some (Some own)) differ = by_names (bytes_eq own pair.after.name) (bytes_eq own pair.before.name) refl refl
  where
    column : Renaming
    column = record { name = own; place = place }

    by_names : (is_after is_before : Bool) → bytes_eq own pair.after.name ≡ is_after → bytes_eq own pair.before.name ≡ is_before
        → named_by (called pair.before.name pair.after.name (cond is_after (Some None) (Some (Some own)))) place
        ≡ map (with_new_name pair) (cond (cond is_before true (not is_after)) (record { name = own; place = place } ∷ []) [])
    by_names true true after_is before_is =
        let same : bytes_eq pair.before.name pair.after.name ≡ true =
        (bytes_eq-Decides pair.before.name pair.after.name).1 (sym (same_name own pair.before.name before_is) ∙ same_name own pair.after.name after_is) in
        absurd cc
    by_names true false after_is before_is = refl
    by_names false true after_is before_is = rw before_is refl
    by_names false false after_is before_is = rw before_is refl

pub pair_seen : (pair : RenamePair) (names new : List (Option (List ℕ))) (place : ℕ) (firsts : List ℕ) → bytes_eq pair.before.name pair.after.name ≡ false
    → ((at : ℕ) → slice_get new at ≡ called pair.before.name pair.after.name (let_go pair.after.name (slice_get names at)))
    → renames_seen new place firsts ≡ rename_pair (renames_seen names place firsts) pair
pair_seen pair names new place [] differ are = refl
pair_seen pair names new place (first ∷ firsts) differ are =
    (λ i. (ap (λ (held : Option (Option (List ℕ))). named_by held place) (are first) ∙ one_pair pair place (slice_get names first) differ) i
    ++ pair_seen pair names new (place + 1) firsts differ are i)
    ∙ sym (pair_both pair (named_by (slice_get names first) place) (renames_seen names (place + 1) firsts))

-- a pair of one name changes nothing
pub pair_same : (pair : RenamePair) (these : List Renaming) → pair.before.name ≡ pair.after.name → these ≡ rename_pair these pair
pair_same pair [] same = refl
pair_same pair (one ∷ these) same = by_name (bytes_eq one.name pair.before.name) refl (pair_same pair these same)
  where
    by_name : (is : Bool) → bytes_eq one.name pair.before.name ≡ is → these ≡ rename_pair these pair
        → one ∷ these ≡ map (with_new_name pair) (cond (cond is true (not (bytes_eq one.name pair.after.name))) (one ∷ filter (stays pair) these) (filter (stays pair) these))
    by_name true is rest =
        let own : with_new_name pair one ≡ one =
        ap (λ (named : Bool). cond named (record { name = pair.after.name; place = one.place }) one) is
        ∙ ap (λ (name : List ℕ). record { name = name; place = one.place }) (sym (same_name one.name pair.before.name is ∙ same)) in
        λ i. sym own i ∷ rest i
    by_name false is rest =
        let other : bytes_eq one.name pair.after.name ≡ false = ap (bytes_eq one.name) (sym same) ∙ is in
        let own : with_new_name pair one ≡ one = ap (λ (named : Bool). cond named (record { name = pair.after.name; place = one.place }) one) is in
        (λ i. sym own i ∷ rest i)
        ∙ ap (λ (here : Bool). map (with_new_name pair) (cond (not here) (one ∷ filter (stays pair) these) (filter (stays pair) these))) (sym other)

-- whether a column has a name -----------------------------------------------------------------------------------------------

-- one column, and the others
there_both : (name : List ℕ) (held : Option (Option (List ℕ))) (place : ℕ) (rest : List Renaming) → (held ≡ Some (Some name) → ⊥) → is_there (named_by held place ++ rest) name ≡ is_there rest name
there_both name None place rest apart = refl
there_both name (Some None) place rest apart = refl
there_both name (Some (Some own)) place rest apart = by_name (bytes_eq own name) refl
  where
    by_name : (same : Bool) → bytes_eq own name ≡ same → (same || is_there rest name) ≡ is_there rest name
    by_name true is = absurd (apart (ap (λ (this : List ℕ). Some (Some this)) (same_name own name is)))
    by_name false is = refl

none_there : (names : List (Option (List ℕ))) (place : ℕ) (firsts : List ℕ) (name : List ℕ) → ((at : ℕ) → slice_get names at ≡ Some (Some name) → ⊥) → is_there (renames_seen names place firsts) name ≡ false
none_there names place [] name apart = refl
none_there names place (first ∷ firsts) name apart =
    there_both name (slice_get names first) place (renames_seen names (place + 1) firsts) (apart first) ∙ none_there names (place + 1) firsts name apart

some_there : (names : List (Option (List ℕ))) (place : ℕ) (firsts : List ℕ) (name : List ℕ) (at first : ℕ) → slice_get firsts at ≡ Some first → slice_get names first ≡ Some (Some name)
    → is_there (renames_seen names place firsts) name ≡ true
some_there names place [] name at first stands has = absurd cc
some_there names place (one ∷ firsts) name zero first stands has =
    let same : one ≡ first = some_is one first stands in
    ap (λ (held : Option (Option (List ℕ))). is_there (named_by held place ++ renames_seen names (place + 1) firsts) name) (ap (slice_get names) same ∙ has)
    ∙ ap (λ (own : Bool). own || is_there (renames_seen names (place + 1) firsts) name) (own_name name)
some_there names place (one ∷ firsts) name (suc at) first stands has = either (slice_get names one) (some_there names (place + 1) firsts name at first stands has)
  where
    either : (held : Option (Option (List ℕ))) → is_there (renames_seen names (place + 1) firsts) name ≡ true → is_there (named_by held place ++ renames_seen names (place + 1) firsts) name ≡ true
    either None rest = rest
    either (Some None) rest = rest
    either (Some (Some own)) rest = by_name (bytes_eq own name)
      where
        by_name : (same : Bool) → (same || is_there (renames_seen names (place + 1) firsts) name) ≡ true
        by_name true = refl
        by_name false = rest

pub there_by : (names : List (Option (List ℕ))) (firsts : List ℕ) (place_of : List ℕ → Option ℕ) (name : List ℕ) → AreInverse names place_of → AreOwn firsts place_of
    → is_some (place_of name) ≡ is_there (renames_seen names 0 firsts) name
there_by names firsts place_of name inverse own = by_place (place_of name) refl
  where
    by_place : (found : Option ℕ) → place_of name ≡ found → is_some found ≡ is_there (renames_seen names 0 firsts) name
    by_place None is = sym (none_there names 0 firsts name (λ at has. none_some at (sym is ∙ inverse.found name at has)))
    by_place (Some place) is = sym (some_there names 0 firsts name place place (own name place is) (inverse.stands name place is))
