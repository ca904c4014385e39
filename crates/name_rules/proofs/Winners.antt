-- The pattern that wins a name.
use Rattle.std.proofs.Common.{◌≡◌, ℕ, zero, suc, ◌+◌, ◌<◌, ◌≤◌, ◌==◌, ◌&&◌, ◌||◌, Bool, true, false, cond, List, [], ◌∷◌, Option, Some, None, refl, sym, ap, subst, ◌∙◌, arith}
use Rattle.std.specs.Prelude.{slice_get}
use Rattle.std.specs.Option.{option_map, option_or}
use Rattle.std.proofs.lemmas.Bool.{and_parts, eqb-true, or_left, or_right}
use Rattle.esql_ast.specs.declared.query.NamePattern.{NamePattern}
use Rattle.name_rules.specs.NameRules.{is_star, meets, rank_of, meets_at_rank, last_place, last_of_rank, winner, is_met}
use Rattle.name_rules.specs.NameLaws.{IsWinner}

some_is : {A : Type 0} (x y : A) → Some x ≡ Some y → x ≡ y
some_is x y same = cc

-- an item passes the test, and none behind it does
record IsLast {A : Type 0} (test : A → Bool) (items : List A) (place : ℕ) : Type 0 where
  item : A
  stands : slice_get items place ≡ Some item
  passes : test item ≡ true
  none_behind : (other : ℕ) (rival : A) → slice_get items other ≡ Some rival → place < other → test rival ≡ false

no_place : (found : Option ℕ) (first : Bool) → option_or (option_map (λ place. place + 1) found) (cond first (Some 0) None) ≡ None → (found ≡ None) × (first ≡ false)
no_place None true none = absurd cc
no_place None false none = (refl, refl)
no_place (Some place) first none = absurd cc

last_none : {A : Type 0} (test : A → Bool) (items : List A) → last_place test items ≡ None → (other : ℕ) (rival : A) → slice_get items other ≡ Some rival → test rival ≡ false
last_none test [] none other rival is = absurd cc
last_none test (item ∷ items) none zero rival is = ap test (sym (some_is item rival is)) ∙ (no_place (last_place test items) (test item) none).1
last_none test (item ∷ items) none (suc other) rival is = last_none test items (no_place (last_place test items) (test item) none).0 other rival is

later : {A : Type 0} (test : A → Bool) (item : A) (items : List A) (place : ℕ) → IsLast test items place → IsLast test (item ∷ items) (suc place)
later {A = A} test item items place last = record {
  item = last.item;
  stands = last.stands;
  passes = last.passes;
  none_behind = behind;
} where
  behind : (other : ℕ) (rival : A) → slice_get (item ∷ items) other ≡ Some rival → suc place < other → test rival ≡ false
  behind zero rival is less = absurd (omega (arith, less))
  behind (suc other) rival is less = last.none_behind other rival is (omega (arith, less))

first_alone : {A : Type 0} (test : A → Bool) (item : A) (items : List A) → test item ≡ true → last_place test items ≡ None → IsLast test (item ∷ items) 0
first_alone {A = A} test item items passes none = record {
  item = item;
  stands = refl;
  passes = passes;
  none_behind = behind;
} where
  behind : (other : ℕ) (rival : A) → slice_get (item ∷ items) other ≡ Some rival → 0 < other → test rival ≡ false
  behind zero rival is less = absurd (omega (arith, less))
  behind (suc other) rival is less = last_none test items none other rival is

last_some_by : {A : Type 0} (test : A → Bool) (item : A) (items : List A) (place : ℕ) → ((found : ℕ) → last_place test items ≡ Some found → IsLast test items found) →
    (found : Option ℕ) (first : Bool) → last_place test items ≡ found → test item ≡ first →
    option_or (option_map (λ place. place + 1) found) (cond first (Some 0) None) ≡ Some place → IsLast test (item ∷ items) place
last_some_by test item items place behind (Some found) first is passes same =
    subst (IsLast test (item ∷ items)) (omega (arith, some_is (found + 1) place same)) (later test item items found (behind found is))
last_some_by test item items place behind None true is passes same = subst (IsLast test (item ∷ items)) (some_is 0 place same) (first_alone test item items passes is)
last_some_by test item items place behind None false is passes same = absurd cc

last_some : {A : Type 0} (test : A → Bool) (items : List A) (place : ℕ) → last_place test items ≡ Some place → IsLast test items place
last_some test [] place same = absurd cc
last_some test (item ∷ items) place same = last_some_by test item items place (last_some test items) (last_place test items) (test item) refl refl same

rank_below : (pattern : NamePattern) → rank_of pattern ≤ 2
rank_below pattern = by_case pattern.wild (is_star pattern.text) where
  by_case : (wild star : Bool) → cond wild (cond star 0 1) 2 ≤ 2
  by_case true true = omega arith
  by_case true false = omega arith
  by_case false star = omega arith

ranked_false : (rank own : ℕ) (met : Bool) → own ≡ rank → (own == rank && met) ≡ false → met ≡ false
ranked_false rank own true same none = absurd (grind arith)
ranked_false rank own false same none = refl

module _ (patterns : List NamePattern) (name : List ℕ) where
  -- the rightmost of a rank wins where no higher rank has a pattern that meets the name
  ranked : (rank place : ℕ) → last_of_rank rank patterns name ≡ Some place → ((higher : ℕ) → rank < higher → higher ≤ 2 → last_of_rank higher patterns name ≡ None) →
      IsWinner patterns name place
  ranked rank place found above =
      let last = last_some (meets_at_rank rank name) patterns place found in
      let parts = and_parts (rank_of last.item == rank) (meets last.item name) last.passes in
      let own : rank_of last.item ≡ rank = eqb-true _ _ parts.0 in
      record {
        pattern = last.item;
        stands = last.stands;
        meets_name = parts.1;
        none_above = λ other rival is less.
            ranked_false (rank_of rival) (rank_of rival) (meets rival name) refl
            (last_none (meets_at_rank (rank_of rival) name) patterns (above (rank_of rival) (omega (arith, less, own)) (rank_below rival)) other rival is);
        none_behind = λ other rival is less same. ranked_false rank (rank_of rival) (meets rival name) (same ∙ own) (last.none_behind other rival is less);
      }

  higher_than_one : last_of_rank 2 patterns name ≡ None → (higher : ℕ) → 1 < higher → higher ≤ 2 → last_of_rank higher patterns name ≡ None
  higher_than_one none higher less within = ap (λ rank. last_of_rank rank patterns name) (omega (arith, less, within)) ∙ none

  higher_than_zero : last_of_rank 2 patterns name ≡ None → last_of_rank 1 patterns name ≡ None → (higher : ℕ) → 0 < higher → higher ≤ 2 → last_of_rank higher patterns name ≡ None
  higher_than_zero none none_of_one zero less within = absurd (omega (arith, less))
  higher_than_zero none none_of_one (suc zero) less within = none_of_one
  higher_than_zero none none_of_one (suc (suc higher)) less within = ap (λ rank. last_of_rank rank patterns name) (omega (arith, within)) ∙ none

  winner_by : (full some star : Option ℕ) (place : ℕ) → last_of_rank 2 patterns name ≡ full → last_of_rank 1 patterns name ≡ some → last_of_rank 0 patterns name ≡ star →
      option_or full (option_or some star) ≡ Some place → IsWinner patterns name place
  winner_by (Some found) some star place is is_some is_star same = ranked 2 place (is ∙ same) (λ higher less within. absurd (omega (arith, less, within)))
  winner_by None (Some found) star place is is_some is_star same = ranked 1 place (is_some ∙ same) (higher_than_one is)
  winner_by None None star place is is_some is_star same = ranked 0 place (is_star ∙ same) (higher_than_zero is is_some)

  pub winner_wins : (place : ℕ) → winner patterns name ≡ Some place → IsWinner patterns name place
  winner_wins place same = winner_by (last_of_rank 2 patterns name) (last_of_rank 1 patterns name) (last_of_rank 0 patterns name) place refl refl refl same

  no_rank : (full some star : Option ℕ) → option_or full (option_or some star) ≡ None → (full ≡ None) × (some ≡ None) × (star ≡ None)
  no_rank None None None none = (refl, refl, refl)
  no_rank None None (Some star) none = absurd cc
  no_rank None (Some some) star none = absurd cc
  no_rank (Some full) some star none = absurd cc

  none_of_rank : winner patterns name ≡ None → (rank : ℕ) → rank ≤ 2 → last_of_rank rank patterns name ≡ None
  none_of_rank none zero within = (no_rank (last_of_rank 2 patterns name) (last_of_rank 1 patterns name) (last_of_rank 0 patterns name) none).2
  none_of_rank none (suc rank) within =
      let none_of = no_rank (last_of_rank 2 patterns name) (last_of_rank 1 patterns name) (last_of_rank 0 patterns name) none in
      higher_than_zero none_of.0 none_of.1 (suc rank) (omega arith) within

  none_meets : winner patterns name ≡ None → (other : ℕ) (rival : NamePattern) → slice_get patterns other ≡ Some rival → meets rival name ≡ false
  none_meets none other rival is =
      ranked_false (rank_of rival) (rank_of rival) (meets rival name) refl
      (last_none (meets_at_rank (rank_of rival) name) patterns (none_of_rank none (rank_of rival) (rank_below rival)) other rival is)

not_met : (patterns : List NamePattern) (name : List ℕ) → ((other : ℕ) (rival : NamePattern) → slice_get patterns other ≡ Some rival → meets rival name ≡ false) → is_met patterns name ≡ false
not_met [] name none = refl
not_met (pattern ∷ patterns) name none = ap (λ met. met || is_met patterns name) (none 0 pattern refl) ∙ not_met patterns name (λ other. none (suc other))

met_at : (patterns : List NamePattern) (name : List ℕ) (place : ℕ) (pattern : NamePattern) → slice_get patterns place ≡ Some pattern → meets pattern name ≡ true → is_met patterns name ≡ true
met_at [] name place pattern is met = absurd cc
met_at (first ∷ patterns) name zero pattern is met = or_left _ _ (ap (λ one. meets one name) (some_is first pattern is) ∙ met)
met_at (first ∷ patterns) name (suc place) pattern is met = or_right (meets first name) _ (met_at patterns name place pattern is met)

pub unwon_is_unmet : (patterns : List NamePattern) (name : List ℕ) → winner patterns name ≡ None → is_met patterns name ≡ false
unwon_is_unmet patterns name none = not_met patterns name (none_meets patterns name none)

pub won_is_met : (patterns : List NamePattern) (name : List ℕ) (place : ℕ) → winner patterns name ≡ Some place → is_met patterns name ≡ true
won_is_met patterns name place same = let wins = winner_wins patterns name place same in met_at patterns name place wins.pattern wins.stands wins.meets_name
