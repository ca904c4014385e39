-- The names that RENAME leaves differ where the names do.
use Rattle.std.proofs.Common.{◌≡◌, ℕ, ◌+◌, Bool, true, false, not, cond, List, [], ◌∷◌, map, filter, fold, refl, sym, ap, subst, ◌∙◌}
use Rattle.std.specs.List.{AllByRecursion, IsDistinct}
use Rattle.std.specs.Str.{bytes_eq}
use Rattle.std.proofs.lemmas.Slice.Eq.{bytes_eq-Decides}
use Rattle.esql_ast.specs.declared.query.RenamePair.{RenamePair}
use Rattle.name_rules.specs.NameRules.{Renaming, placed_from, placed, is_named, stays, with_new_name, rename_pair, is_there, with_pair, renamings}
use Rattle.name_rules.specs.NameLaws.{names_of, RenamedDiffer}

-- the names of both differ
abbrev AreApart : Renaming → Renaming → Type 0
AreApart one other = bytes_eq one.name other.name ≡ false

-- the names of all differ
abbrev IsApart : List Renaming → Type 0
IsApart these = IsDistinct (λ (one other : Renaming). bytes_eq one.name other.name) these

names_placed : (first : ℕ) (names : List (List ℕ)) → names_of (placed_from first names) ≡ names
names_placed first [] = refl
names_placed first (name ∷ names) = ap (λ left. name ∷ left) (names_placed (first + 1) names)

all_names : (name : List ℕ) (these : List Renaming) → AllByRecursion (λ (other : Renaming). bytes_eq name other.name ≡ false) these → AllByRecursion (λ other. bytes_eq name other ≡ false) (names_of these)
all_names name [] all = tt
all_names name (one ∷ these) all = (all.0, all_names name these all.1)

apart_names : (these : List Renaming) → IsApart these → IsDistinct bytes_eq (names_of these)
unfolding IsDistinct
apart_names [] apart = tt
apart_names (one ∷ these) apart = (all_names one.name these apart.0, apart_names these apart.1)

all_of_names : (name : List ℕ) (these : List Renaming) → AllByRecursion (λ other. bytes_eq name other ≡ false) (names_of these) → AllByRecursion (λ (other : Renaming). bytes_eq name other.name ≡ false) these
all_of_names name [] all = tt
all_of_names name (one ∷ these) all = (all.0, all_of_names name these all.1)

names_apart : (these : List Renaming) → IsDistinct bytes_eq (names_of these) → IsApart these
unfolding IsDistinct
names_apart [] distinct = tt
names_apart (one ∷ these) distinct = (all_of_names one.name these distinct.0, names_apart these distinct.1)

-- what holds of each holds of those that pass
all_passing_by : (P : Renaming → Type 0) (one : Renaming) (left : List Renaming) (passes : Bool) → P one → AllByRecursion P left → AllByRecursion P (cond passes (one ∷ left) left)
all_passing_by P one left true here all = (here, all)
all_passing_by P one left false here all = all

all_passing : (P : Renaming → Type 0) (test : Renaming → Bool) (these : List Renaming) → AllByRecursion P these → AllByRecursion P (filter test these)
all_passing P test [] all = tt
all_passing P test (one ∷ these) all = all_passing_by P one (filter test these) (test one) all.0 (all_passing P test these all.1)

all_pass_by : (test : Renaming → Bool) (one : Renaming) (left : List Renaming) (passes : Bool) → test one ≡ passes → AllByRecursion (λ other. test other ≡ true) left →
    AllByRecursion (λ other. test other ≡ true) (cond passes (one ∷ left) left)
all_pass_by test one left true is all = (is, all)
all_pass_by test one left false is all = all

all_pass : (test : Renaming → Bool) (these : List Renaming) → AllByRecursion (λ one. test one ≡ true) (filter test these)
all_pass test [] = tt
all_pass test (one ∷ these) = all_pass_by test one (filter test these) (test one) refl (all_pass test these)

apart_passing_by : (one : Renaming) (left : List Renaming) (passes : Bool) → AllByRecursion (AreApart one) left → IsApart left → IsApart (cond passes (one ∷ left) left)
unfolding IsDistinct
apart_passing_by one left true here apart = (here, apart)
apart_passing_by one left false here apart = apart

apart_passing : (test : Renaming → Bool) (these : List Renaming) → IsApart these → IsApart (filter test these)
unfolding IsDistinct
apart_passing test [] apart = tt
apart_passing test (one ∷ these) apart =
    apart_passing_by one (filter test these) (test one) (all_passing (AreApart one) test these apart.0) (apart_passing test these apart.1)

not_true : (b : Bool) → not b ≡ true → b ≡ false
not_true true is = absurd cc
not_true false is = refl

other_by : (one other : List ℕ) (same : Bool) → bytes_eq other one ≡ same → bytes_eq one other ≡ false → bytes_eq other one ≡ false
other_by one other true is apart = let same = (bytes_eq-Decides one other).1 (sym ((bytes_eq-Decides other one).0 is)) in absurd cc
other_by one other false is apart = is

other_way : (one other : List ℕ) → bytes_eq one other ≡ false → bytes_eq other one ≡ false
other_way one other apart = other_by one other (bytes_eq other one) refl apart

same_names : (before one other : List ℕ) → bytes_eq one before ≡ true → bytes_eq other before ≡ true → bytes_eq one other ≡ true
same_names before one other is also = (bytes_eq-Decides one other).1 ((bytes_eq-Decides one before).0 is ∙ sym ((bytes_eq-Decides other before).0 also))

-- two columns that stay have different names once one of them is renamed
separate_by : (before after : List ℕ) (one other : Renaming) (first second : Bool) → is_named before one ≡ first → is_named before other ≡ second →
    cond first true (not (is_named after one)) ≡ true → cond second true (not (is_named after other)) ≡ true → AreApart one other →
    AreApart (cond first (record { name = after; place = one.place }) one) (cond second (record { name = after; place = other.place }) other)
separate_by before after one other true true is also stays_one stays_other apart = let same = same_names before one.name other.name is also in absurd cc
separate_by before after one other true false is also stays_one stays_other apart = other_way other.name after (not_true (bytes_eq other.name after) stays_other)
separate_by before after one other false true is also stays_one stays_other apart = not_true (bytes_eq one.name after) stays_one
separate_by before after one other false false is also stays_one stays_other apart = apart

separate : (pair : RenamePair) (one other : Renaming) → stays pair one ≡ true → stays pair other ≡ true → AreApart one other → AreApart (with_new_name pair one) (with_new_name pair other)
separate pair one other stays_one stays_other apart =
    separate_by pair.before.name pair.after.name one other (is_named pair.before.name one) (is_named pair.before.name other) refl refl stays_one stays_other apart

all_apart : (pair : RenamePair) (one : Renaming) (these : List Renaming) → stays pair one ≡ true → AllByRecursion (λ other. stays pair other ≡ true) these →
    AllByRecursion (AreApart one) these → AllByRecursion (AreApart (with_new_name pair one)) (map (with_new_name pair) these)
all_apart pair one [] stays_one all_stay apart = tt
all_apart pair one (other ∷ these) stays_one all_stay apart =
    (separate pair one other stays_one all_stay.0 apart.0, all_apart pair one these stays_one all_stay.1 apart.1)

apart_renamed : (pair : RenamePair) (these : List Renaming) → AllByRecursion (λ one. stays pair one ≡ true) these → IsApart these → IsApart (map (with_new_name pair) these)
unfolding IsDistinct
apart_renamed pair [] all_stay apart = tt
apart_renamed pair (one ∷ these) all_stay apart = (all_apart pair one these all_stay.0 all_stay.1 apart.0, apart_renamed pair these all_stay.1 apart.1)

apart_by : (pair : RenamePair) (these : List Renaming) (there : Bool) → IsApart these → IsApart (cond there (rename_pair these pair) these)
apart_by pair these true apart = apart_renamed pair (filter (stays pair) these) (all_pass (stays pair) these) (apart_passing (stays pair) these apart)
apart_by pair these false apart = apart

apart_pairs : (pairs : List RenamePair) (these : List Renaming) → IsApart these → IsApart (fold with_pair these pairs)
apart_pairs [] these apart = apart
apart_pairs (pair ∷ pairs) these apart = apart_pairs pairs (with_pair these pair) (apart_by pair these (is_there these pair.before.name) apart)

pub renamed_differ : (names : List (List ℕ)) (pairs : List RenamePair) → RenamedDiffer names pairs
renamed_differ names pairs distinct =
    apart_names (renamings names pairs)
    (apart_pairs pairs (placed names) (names_apart (placed names) (subst (IsDistinct bytes_eq) (sym (names_placed 0 names)) distinct)))
