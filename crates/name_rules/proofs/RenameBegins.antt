-- One more column, before the first pair of RENAME.
use Rattle.std.proofs.Common.{◌≡◌, ◌⊎◌, inl, inr, ℕ, zero, suc, ◌+◌, ◌<◌, Bool, true, false, cond, List, [], ◌∷◌, ◌++◌, length, Option, Some, None, refl, sym, ap, subst, ◌∙◌, append_assoc, length-append, arith}
use Rattle.std.specs.List.{slice_get}
use Rattle.std.specs.Str.{bytes_eq}
use Rattle.std.proofs.lemmas.List.{append-nil}
use Rattle.std.proofs.lemmas.Slice.Eq.{bytes_eq-Decides}
use Rattle.name_rules.specs.NameRules.{Renaming}
use Rattle.name_rules.specs.Renames.{named_by, renames_seen, AreInverse}
use Rattle.name_rules.proofs.RenamePlaces.{some_is, within_some, front_kept, last_here, front_or_last}
use Rattle.name_rules.proofs.RenameSteps.{AreOwn}

-- each column's first one is among so many
abbrev pub AreBelow : ℕ → List ℕ → Type 0
AreBelow count firsts = (place first : ℕ) → slice_get firsts place ≡ Some first → first < count

read_front : (names : List (Option (List ℕ))) (last : Option (List ℕ)) (place : ℕ) → place < length names → slice_get (names ++ last ∷ []) place ≡ slice_get names place
read_front [] last place within = absurd (omega (arith, within))
read_front (first ∷ names) last zero within = refl
read_front (first ∷ names) last (suc place) within = read_front names last place (omega (arith, within))

seen_front : (names : List (Option (List ℕ))) (last : Option (List ℕ)) (place : ℕ) (firsts : List ℕ) → AreBelow (length names) firsts
    → renames_seen (names ++ last ∷ []) place firsts ≡ renames_seen names place firsts
seen_front names last place [] below = refl
seen_front names last place (first ∷ firsts) below =
    λ i. named_by (read_front names last first (below 0 first refl) i) place ++ seen_front names last (place + 1) firsts (λ at one is. below (suc at) one is) i

seen_snoc : (names : List (Option (List ℕ))) (place : ℕ) (firsts : List ℕ) (first : ℕ)
    → renames_seen names place (firsts ++ first ∷ []) ≡ renames_seen names place firsts ++ named_by (slice_get names first) (place + length firsts)
seen_snoc names place [] first = append-nil (named_by (slice_get names first) place) ∙ ap (named_by (slice_get names first)) (omega arith)
seen_snoc names place (one ∷ firsts) first =
    ap (λ (these : List Renaming). named_by (slice_get names one) place ++ these) (seen_snoc names (place + 1) firsts first)
    ∙ sym (append_assoc (named_by (slice_get names one) place) (renames_seen names (place + 1) firsts) (named_by (slice_get names first) (place + 1 + length firsts)))
    ∙ ap (λ (here : ℕ). (named_by (slice_get names one) place ++ renames_seen names (place + 1) firsts) ++ named_by (slice_get names first) here) (omega arith)

-- the column stands at its place under its name
pub begun_seen : (names names_new : List (Option (List ℕ))) (firsts firsts_new : List ℕ) (last : Option (List ℕ)) (first count : ℕ) (name : List ℕ) → length names ≡ count → length firsts ≡ count
    → AreBelow count firsts → names_new ≡ names ++ last ∷ [] → firsts_new ≡ firsts ++ first ∷ [] → slice_get (names ++ last ∷ []) first ≡ Some (Some name)
    → renames_seen names_new 0 firsts_new ≡ renames_seen names 0 firsts ++ record { name = name; place = count } ∷ []
begun_seen names names_new firsts firsts_new last first count name names_count firsts_count below names_are firsts_are has =
    (λ i. renames_seen (names_are i) 0 (firsts_are i))
    ∙ seen_snoc (names ++ last ∷ []) 0 firsts first
    ∙ (λ i. seen_front names last 0 firsts (λ at one is. subst (λ (end : ℕ). one < end) (sym names_count) (below at one is)) i ++ named_by (has i) (0 + firsts_count i))
    ∙ ap (λ (place : ℕ). renames_seen names 0 firsts ++ record { name = name; place = place } ∷ []) (omega arith)

pub one_below : (firsts new : List ℕ) (first count : ℕ) → AreBelow count firsts → first < count + 1 → new ≡ firsts ++ first ∷ [] → AreBelow (count + 1) new
one_below firsts new first count below within are place one is = by_place (front_or_last firsts place first one (ap (λ (these : List ℕ). slice_get these place) (sym are) ∙ is))
  where
    by_place : (slice_get firsts place ≡ Some one) ⊎ ((place ≡ length firsts) × (first ≡ one)) → one < count + 1
    by_place (inl front) = let less = below place one front in omega (arith, less)
    by_place (inr behind) = omega (arith, within, behind.1)

pub one_more : {A : Type 0} (xs new : List A) (x : A) (count : ℕ) → length xs ≡ count → new ≡ xs ++ x ∷ [] → length new ≡ count + 1
one_more xs new x count counted are = ap length are ∙ length-append xs (x ∷ []) ∙ ap (λ n. n + 1) counted

-- a name that has a place -----------------------------------------------------------------------------------------------------

pub known_inverse : (names new : List (Option (List ℕ))) (place_of : List ℕ → Option ℕ) → AreInverse names place_of → new ≡ names ++ None ∷ [] → AreInverse new place_of
known_inverse names new place_of inverse are = record {
  stands = λ name place is. ap (λ (these : List (Option (List ℕ))). slice_get these place) are ∙ front_kept names place None (Some name) (inverse.stands name place is);
  found = λ name place is.
      found_by name place (front_or_last names place None (Some name) (ap (λ (these : List (Option (List ℕ))). slice_get these place) (sym are) ∙ is));
}
  where
    found_by : (name : List ℕ) (place : ℕ) → (slice_get names place ≡ Some (Some name)) ⊎ ((place ≡ length names) × (None ≡ Some name)) → place_of name ≡ Some place
    found_by name place (inl front) = inverse.found name place front
    found_by name place (inr behind) = let none = behind.1 in absurd cc

pub own_more : (firsts new : List ℕ) (place_of : List ℕ → Option ℕ) (first : ℕ) → AreOwn firsts place_of → new ≡ firsts ++ first ∷ [] → AreOwn new place_of
own_more firsts new place_of first own are name place is = ap (λ (these : List ℕ). slice_get these place) are ∙ front_kept firsts place first place (own name place is)

-- a name that has none --------------------------------------------------------------------------------------------------------

abbrev pub IsPut : List ℕ → ℕ → (List ℕ → Option ℕ) → (List ℕ → Option ℕ) → Type 0
IsPut name place old new = (other : List ℕ) → new other ≡ cond (bytes_eq name other) (Some place) (old other)

pub new_inverse : (names new : List (Option (List ℕ))) (old_of new_of : List ℕ → Option ℕ) (name copy : List ℕ) (count : ℕ) → AreInverse names old_of → old_of name ≡ None → length names ≡ count
    → copy ≡ name → new ≡ names ++ Some copy ∷ [] → IsPut name count old_of new_of → AreInverse new new_of
new_inverse names new old_of new_of name copy count inverse none counted same are put = record {
  stands = λ own place is. ap (λ (these : List (Option (List ℕ))). slice_get these place) now ∙ stands_by own place (bytes_eq name own) refl (sym (put own) ∙ is);
  found = λ own place is.
      put own ∙ found_by own place (front_or_last names place (Some name) (Some own) (ap (λ (these : List (Option (List ℕ))). slice_get these place) (sym now) ∙ is));
}
  where
    now : new ≡ names ++ Some name ∷ []
    now = are ∙ ap (λ (this : List ℕ). names ++ Some this ∷ []) same

    stands_by : (own : List ℕ) (place : ℕ) (is_own : Bool) → bytes_eq name own ≡ is_own → cond is_own (Some count) (old_of own) ≡ Some place
        → slice_get (names ++ Some name ∷ []) place ≡ Some (Some own)
    stands_by own place true is now =
        ap (slice_get (names ++ Some name ∷ [])) (sym (some_is count place now) ∙ sym counted)
        ∙ last_here names (Some name)
        ∙ ap (λ (this : List ℕ). Some (Some this)) ((bytes_eq-Decides name own).0 is)
    stands_by own place false is now = front_kept names place (Some name) (Some own) (inverse.stands own place now)

    found_by : (own : List ℕ) (place : ℕ) → (slice_get names place ≡ Some (Some own)) ⊎ ((place ≡ length names) × (Some name ≡ Some own))
        → cond (bytes_eq name own) (Some count) (old_of own) ≡ Some place
    found_by own place (inl front) = other (bytes_eq name own) refl
      where
        other : (is_own : Bool) → bytes_eq name own ≡ is_own → cond is_own (Some count) (old_of own) ≡ Some place
        other true is = let clash : None ≡ Some place = sym none ∙ ap old_of ((bytes_eq-Decides name own).0 is) ∙ inverse.found own place front in absurd cc
        other false is = inverse.found own place front
    found_by own place (inr (here, is)) =
        ap (λ (is_own : Bool). cond is_own (Some count) (old_of own)) ((bytes_eq-Decides name own).1 (some_is name own is)) ∙ ap Some (sym counted ∙ sym here)

pub new_own : (firsts new : List ℕ) (old_of new_of : List ℕ → Option ℕ) (name : List ℕ) (count : ℕ) → AreOwn firsts old_of → length firsts ≡ count → new ≡ firsts ++ count ∷ []
    → IsPut name count old_of new_of → AreOwn new new_of
new_own firsts new old_of new_of name count own counted are put other place is = ap (λ (these : List ℕ). slice_get these place) are ∙ by_name (bytes_eq name other) (sym (put other) ∙ is)
  where
    by_name : (is_own : Bool) → cond is_own (Some count) (old_of other) ≡ Some place → slice_get (firsts ++ count ∷ []) place ≡ Some place
    by_name true now =
        let here : count ≡ place = some_is count place now in
        ap (slice_get (firsts ++ count ∷ [])) (sym here ∙ sym counted) ∙ last_here firsts count ∙ now
    by_name false now = front_kept firsts place count place (own other place now)
