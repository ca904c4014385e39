-- Names, each once.
use Rattle.std.proofs.Common.{◌≡◌, ℕ, Bool, true, false, ◌||◌, cond, List, [], ◌∷◌, ◌++◌, Option, Some, refl, sym, ap, ◌∙◌}
use Rattle.std.specs.List.{list_any}
use Rattle.std.specs.Option.{is_some}
use Rattle.std.specs.Str.{bytes_eq}
use Rattle.std.proofs.lemmas.List.Folds.{list_any-append}
use Rattle.table_files.specs.Numbers.{AreKnown}
use Rattle.table_files.specs.Policies.{with_name}

abbrev has : List (List ℕ) → List ℕ → Bool
has names name = list_any (λ one. bytes_eq one name) names

-- a name that is known changes nothing
pub known_passes : (names : List (List ℕ)) (name : List ℕ) → has names name ≡ true → names ≡ with_name names name
known_passes names name is = sym (ap (λ (b : Bool). cond b names (names ++ name ∷ [])) is)

-- one that is not comes last
pub new_last : (names : List (List ℕ)) (name copied : List ℕ) → copied ≡ name → has names name ≡ false → names ++ copied ∷ [] ≡ with_name names name
new_last names name copied same is = ap (λ one. names ++ one ∷ []) same ∙ sym (ap (λ (b : Bool). cond b names (names ++ name ∷ [])) is)

-- and is known from then on
pub known_more : {A : Type 0} (known later : List ℕ → Option A) (names : List (List ℕ)) (name copied : List ℕ) (value : A) → copied ≡ name → AreKnown known names
    → ((other : List ℕ) → later other ≡ cond (bytes_eq name other) (Some value) (known other)) → AreKnown later (names ++ copied ∷ [])
known_more known later names name copied value same are put other =
    ap is_some (put other) ∙ by_name (bytes_eq name other) (are other) ∙ sym (list_any-append (λ one. bytes_eq one other) names (name ∷ []))
    ∙ ap (λ one. has (names ++ one ∷ []) other) (sym same)
  where
    by_name : (same : Bool) → is_some (known other) ≡ has names other → is_some (cond same (Some value) (known other)) ≡ (has names other || (same || false))
    by_name true before = sym (or_true (has names other))
      where
        or_true : (b : Bool) → (b || true) ≡ true
        or_true true = refl
        or_true false = refl
    by_name false before = before ∙ sym (or_false (has names other))
      where
        or_false : (b : Bool) → (b || false) ≡ b
        or_false true = refl
        or_false false = refl
