-- Lists of names that differ.
use Rattle.std.proofs.Common.{◌≡◌, ℕ, zero, suc, ◌+◌, ◌<◌, Bool, true, false, not, cond, List, [], ◌∷◌, ◌++◌, map, filter, Option, Some, None, ◌||◌, refl, ap, sym, subst, ◌∙◌, arith}
use Rattle.std.specs.List.{AllByRecursion, IsDistinct, flat_map, list_any, range_with_len}
use Rattle.std.specs.Str.{bytes_eq}
use Rattle.std.specs.Cmp.Lexicographic.{bytes_decides, nat_list_eq_equiv}
use Rattle.std.proofs.lemmas.Map.Keys.{IsDistinct-push}
use Rattle.name_rules.specs.NameRules.{is_place}

-- what holds of each -------------------------------------------------------------------------------------------------

pub each_weaker : {A : Type 0} (P Q : A → Type 0) → ((x : A) → P x → Q x) → (xs : List A) → AllByRecursion P xs → AllByRecursion Q xs
each_weaker P Q weaker [] all = tt
each_weaker P Q weaker (x ∷ xs) all = (weaker x all.0, each_weaker P Q weaker xs all.1)

pub each_append : {A : Type 0} (P : A → Type 0) (xs ys : List A) → AllByRecursion P xs → AllByRecursion P ys → AllByRecursion P (xs ++ ys)
each_append P [] ys first second = second
each_append P (x ∷ xs) ys first second = (first.0, each_append P xs ys first.1 second)

-- a filter of what is mapped
each_filter : {A B : Type 0} (P : B → Type 0) (f : A → B) (p : A → Bool) (xs : List A) → AllByRecursion P (map f xs) → AllByRecursion P (map f (filter p xs))
each_filter P f p [] all = tt
each_filter P f p (x ∷ xs) all =
    elim (p x) as (λ passes. AllByRecursion P (map f (cond passes (x ∷ filter p xs) (filter p xs))))
    [ true ↦ (all.0, each_filter P f p xs all.1) | false ↦ each_filter P f p xs all.1 ]

each_passes : {A : Type 0} (p : A → Bool) (xs : List A) → AllByRecursion (λ x. p x ≡ true) (filter p xs)
each_passes p [] = tt
each_passes p (x ∷ xs) = one (p x) refl (each_passes p xs)
  where
    one : (passes : Bool) → p x ≡ passes → AllByRecursion (λ x. p x ≡ true) (filter p xs) → AllByRecursion (λ x. p x ≡ true) (cond passes (x ∷ filter p xs) (filter p xs))
    one true is rest = (is, rest)
    one false is rest = rest

-- names that differ ------------------------------------------------------------------------------------------------------

abbrev pub AreDistinct : List (List ℕ) → Type 0
AreDistinct names = IsDistinct bytes_eq names

abbrev pub IsOther : List ℕ → List ℕ → Type 0
IsOther name other = bytes_eq name other ≡ false

pub distinct_head : (name : List ℕ) (names : List (List ℕ)) → AreDistinct (name ∷ names) → AllByRecursion (IsOther name) names
unfolding IsDistinct
distinct_head name names distinct = distinct.0

pub distinct_tail : (name : List ℕ) (names : List (List ℕ)) → AreDistinct (name ∷ names) → AreDistinct names
unfolding IsDistinct
distinct_tail name names distinct = distinct.1

pub distinct_nil : AreDistinct []
unfolding IsDistinct
distinct_nil = tt

pub distinct_cons : (name : List ℕ) (names : List (List ℕ)) → AllByRecursion (IsOther name) names → AreDistinct names → AreDistinct (name ∷ names)
unfolding IsDistinct
distinct_cons name names others distinct = (others, distinct)

pub distinct_filter : {A : Type 0} (f : A → List ℕ) (p : A → Bool) (xs : List A) → AreDistinct (map f xs) → AreDistinct (map f (filter p xs))
distinct_filter f p [] distinct = distinct
distinct_filter f p (x ∷ xs) distinct =
    let rest = distinct_filter f p xs (distinct_tail (f x) (map f xs) distinct) in
    elim (p x) as (λ passes. AreDistinct (map f (cond passes (x ∷ filter p xs) (filter p xs))))
    [ true ↦ distinct_cons (f x) (map f (filter p xs)) (each_filter (IsOther (f x)) f p xs (distinct_head (f x) (map f xs) distinct)) rest | false ↦ rest ]

distinct_append : (xs ys : List (List ℕ)) → AreDistinct xs → AreDistinct ys → AllByRecursion (λ x. AllByRecursion (IsOther x) ys) xs → AreDistinct (xs ++ ys)
distinct_append [] ys first second apart = second
distinct_append (x ∷ xs) ys first second apart =
    distinct_cons x (xs ++ ys) (each_append (IsOther x) xs ys (distinct_head x xs first) apart.0) (distinct_append xs ys (distinct_tail x xs first) second apart.1)

-- a name in the place of those that are the same
abbrev others_of : {A : Type 0} → (A → List ℕ) → List ℕ → List A → List A
others_of f name xs = filter (λ x. not (bytes_eq (f x) name)) xs

none_same : {A : Type 0} (f : A → List ℕ) (name : List ℕ) (xs : List A) → list_any (bytes_eq name) (map f (others_of f name xs)) ≡ false
none_same f name [] = refl
none_same f name (x ∷ xs) = one (bytes_eq (f x) name) refl (none_same f name xs)
  where
    one : (same : Bool) → bytes_eq (f x) name ≡ same → list_any (bytes_eq name) (map f (others_of f name xs)) ≡ false
        → list_any (bytes_eq name) (map f (cond (not same) (x ∷ others_of f name xs) (others_of f name xs))) ≡ false
    one true is rest = rest
    one false is rest = (λ i. (nat_list_eq_equiv.symm name (f x) ∙ is) i || list_any (bytes_eq name) (map f (others_of f name xs))) ∙ rest

pub distinct_put : {A : Type 0} (f : A → List ℕ) (name : List ℕ) (xs : List A) → AreDistinct (map f xs) → AreDistinct (map f (filter (λ x. not (bytes_eq (f x) name)) xs) ++ name ∷ [])
distinct_put f name xs distinct =
    IsDistinct-push nat_list_eq_equiv (map f (filter (λ x. not (bytes_eq (f x) name)) xs)) name (distinct_filter f (λ x. not (bytes_eq (f x) name)) xs distinct) (none_same f name xs)

-- names are other where something tells them apart
pub other_by : (x y : List ℕ) → (x ≡ y → ⊥) → IsOther x y
other_by x y differ = by_same (bytes_eq x y) refl
  where
    by_same : (same : Bool) → bytes_eq x y ≡ same → IsOther x y
    by_same true is = absurd (differ ((bytes_decides x y).0 is))
    by_same false is = is

-- names that are grouped by the place of what wins them ---------------------------------------------------------------------

apart_places : (found : Option ℕ) (first place : ℕ) → first < place → is_place place found ≡ true → is_place first found ≡ false
apart_places None first place less is = absurd cc
apart_places (Some found) first place less is = grind (arith, less, is)

module _ (won : List ℕ → Option ℕ) (names : List (List ℕ)) where
  abbrev of_place : ℕ → List (List ℕ)
  of_place place = filter (λ name. is_place place (won name)) names

  later_other : (first next count : ℕ) → first < next → AllByRecursion (λ name. is_place first (won name) ≡ false) (flat_map of_place (range_with_len next count))
  later_other first next zero less = tt
  later_other first next (suc count) less =
      each_append (λ name. is_place first (won name) ≡ false) (of_place next) (flat_map of_place (range_with_len (next + 1) count))
      (each_weaker (λ name. is_place next (won name) ≡ true) (λ name. is_place first (won name) ≡ false) (λ name is. apart_places (won name) first next less is) (of_place next)
      (each_passes (λ name. is_place next (won name)) names))
      (later_other first (next + 1) count (omega (arith, less)))

  pub distinct_won : (first count : ℕ) → AreDistinct names → AreDistinct (flat_map of_place (range_with_len first count))
  distinct_won first zero distinct = distinct_nil
  distinct_won first (suc count) distinct =
      let later : List (List ℕ) = flat_map of_place (range_with_len (first + 1) count) in
      distinct_append (of_place first) later (filtered distinct) (distinct_won (first + 1) count distinct)
      (each_weaker (λ name. is_place first (won name) ≡ true) (λ name. AllByRecursion (IsOther name) later)
      (λ name is. each_weaker (λ other. is_place first (won other) ≡ false) (IsOther name)
      (λ other not_is. other_by name other (λ same. let both : true ≡ false = sym is ∙ ap (λ these. is_place first (won these)) same ∙ not_is in cc)) later (later_other first (first + 1) count (omega arith)))
      (of_place first) (each_passes (λ name. is_place first (won name)) names))
    where
      itself : (xs : List (List ℕ)) → map (λ name. name) xs ≡ xs
      itself [] = refl
      itself (x ∷ xs) = ap (λ rest. x ∷ rest) (itself xs)

      filtered : AreDistinct names → AreDistinct (of_place first)
      filtered distinct =
          subst AreDistinct (itself (of_place first)) (distinct_filter (λ name. name) (λ name. is_place first (won name)) names (subst AreDistinct (sym (itself names)) distinct))
