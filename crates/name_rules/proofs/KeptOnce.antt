-- The places that KEEP leaves: how often each is there, and of which names they are.
use Rattle.std.proofs.Common.{◌≡◌, ◌≢◌, ℕ, zero, suc, ◌+◌, ◌<◌, ◌≤◌, ◌==◌, Bool, true, false, cond, List, [], ◌∷◌, ◌++◌, length, All, Option, Some, None, refl, sym, ap, subst, ◌∙◌, eq-eqb, arith}
use Rattle.std.specs.Prelude.{slice_get}
use Rattle.std.specs.List.{flat_map, range_with_len, AllByRecursion, IsDistinct}
use Rattle.std.proofs.lemmas.Bool.{ne_eqb, eqb-true, eqb-false}
use Rattle.std.proofs.lemmas.Option.{slice_get_within}
use Rattle.std.proofs.lemmas.List.Elements.{All-nil, All-cons, All-head, All-tail, All-append}
use Rattle.esql_ast.specs.declared.query.NamePattern.{NamePattern}
use Rattle.name_rules.specs.NameRules.{is_place, places_where, winner, wins, is_met, keep_places}
use Rattle.name_rules.specs.NamePlaces.{place_where, places_from}
use Rattle.name_rules.specs.NameLaws.{IsKept, KeptAreWon, KeptOnce, KeptDiffer, count_of}
use Rattle.name_rules.proofs.NamePlaces.{places_where_from}
use Rattle.name_rules.proofs.Winners.{winner_wins, unwon_is_unmet, won_is_met}

-- of which names the places are -------------------------------------------------------------------------------------

-- the place is that of a name that passes the test, where the first name is at a place
record IsOf (test : List ℕ → Bool) (first : ℕ) (names : List (List ℕ)) (place : ℕ) : Type 0 where
  index : ℕ
  name : List ℕ
  is_place : place ≡ first + index
  stands : slice_get names index ≡ Some name
  passes : test name ≡ true

behind_one : (test : List ℕ → Bool) (first : ℕ) (name : List ℕ) (names : List (List ℕ)) (place : ℕ) → IsOf test (first + 1) names place → IsOf test first (name ∷ names) place
behind_one test first name names place of = record {
  index = suc of.index;
  name = of.name;
  is_place = omega (arith, of.is_place);
  stands = of.stands;
  passes = of.passes;
}

All_also : {A : Type 0} (P Q : A → Type 0) → ((x : A) → P x → Q x) → (xs : List A) → All P xs → All Q xs
All_also P Q also [] all = All-nil Q
All_also P Q also (x ∷ xs) all = All-cons Q x xs (also x (All-head P x xs all)) (All_also P Q also xs (All-tail P x xs all))

All_flat_map : {A B : Type 0} (P : B → Type 0) (f : A → List B) → ((x : A) → All P (f x)) → (xs : List A) → All P (flat_map f xs)
All_flat_map P f each [] = All-nil P
All_flat_map P f each (x ∷ xs) = All-append P (f x) (flat_map f xs) (each x) (All_flat_map P f each xs)

one_of : (test : List ℕ → Bool) (first : ℕ) (name : List ℕ) (names : List (List ℕ)) (passes : Bool) → test name ≡ passes → All (IsOf test first (name ∷ names)) (place_where passes first)
one_of test first name names false is = All-nil (IsOf test first (name ∷ names))
one_of test first name names true is =
    All-cons (IsOf test first (name ∷ names)) first [] (record { index = 0; name = name; is_place = omega arith; stands = refl; passes = is }) (All-nil (IsOf test first (name ∷ names)))

all_of : (test : List ℕ → Bool) (first : ℕ) (names : List (List ℕ)) → All (IsOf test first names) (places_from test first names)
all_of test first [] = All-nil (IsOf test first [])
all_of test first (name ∷ names) =
    All-append (IsOf test first (name ∷ names)) (place_where (test name) first) (places_from test (first + 1) names)
    (one_of test first name names (test name) refl)
    (All_also (IsOf test (first + 1) names) (IsOf test first (name ∷ names)) (behind_one test first name names) (places_from test (first + 1) names) (all_of test (first + 1) names))

won_by : (place : ℕ) (found : Option ℕ) → is_place place found ≡ true → found ≡ Some place
won_by place None is = absurd cc
won_by place (Some found) is = ap Some (eqb-true found place is)

is_kept : (names : List (List ℕ)) (patterns : List NamePattern) (winning place : ℕ) → IsOf (wins patterns winning) 0 names place → IsKept names patterns place
is_kept names patterns winning place of =
    let stands : slice_get names place ≡ Some of.name = ap (slice_get names) (omega (arith, of.is_place)) ∙ of.stands in
    let won = won_by winning (winner patterns of.name) of.passes in
    record {
      below = slice_get_within names place of.name stands;
      name = of.name;
      stands = stands;
      winning = winning;
      is_winner = won;
      wins = winner_wins patterns of.name winning won;
    }

kept_of : (names : List (List ℕ)) (patterns : List NamePattern) (winning : ℕ) → All (IsKept names patterns) (places_where (wins patterns winning) names)
kept_of names patterns winning =
    subst (All (IsKept names patterns)) (sym (places_where_from (wins patterns winning) names))
    (All_also (IsOf (wins patterns winning) 0 names) (IsKept names patterns) (is_kept names patterns winning) (places_from (wins patterns winning) 0 names) (all_of (wins patterns winning) 0 names))

pub kept_are_won : (names : List (List ℕ)) (patterns : List NamePattern) → KeptAreWon names patterns
kept_are_won names patterns = All_flat_map (IsKept names patterns) (λ winning. places_where (wins patterns winning) names) (kept_of names patterns) (range_with_len 0 (length patterns))

-- how often each place is there ---------------------------------------------------------------------------------------

abbrev once : Bool → ℕ
once passes = cond passes 1 0

-- once where the name of a place passes, and never where it has none
abbrev once_at : (List ℕ → Bool) → Option (List ℕ) → ℕ
once_at test None = 0
once_at test (Some name) = once (test name)

count-append : (place : ℕ) (xs ys : List ℕ) → count_of place (xs ++ ys) ≡ count_of place xs + count_of place ys
count-append place [] ys = omega arith
count-append place (x ∷ xs) ys = omega (arith, count-append place xs ys)

count_here : (place : ℕ) (stays : Bool) → count_of place (place_where stays place) ≡ once stays
count_here place true = ap (λ same. once same + 0) (eq-eqb place place refl)
count_here place false = refl

count_at : (other place : ℕ) (stays : Bool) → place ≡ other → count_of place (place_where stays other) ≡ once stays
count_at other place stays is = ap (λ at. count_of at (place_where stays other)) is ∙ count_here other stays

count_there : (place other : ℕ) (stays : Bool) → place < other → count_of place (place_where stays other) ≡ 0
count_there place other true less = ap (λ same. once same + 0) (ne_eqb other place (λ same. omega (arith, less, same)))
count_there place other false less = refl

count_behind : (place other : ℕ) (stays : Bool) → other < place → count_of place (place_where stays other) ≡ 0
count_behind place other true less = ap (λ same. once same + 0) (ne_eqb other place (λ same. omega (arith, less, same)))
count_behind place other false less = refl

none_before : (test : List ℕ → Bool) (first : ℕ) (names : List (List ℕ)) (place : ℕ) → place < first → count_of place (places_from test first names) ≡ 0
none_before test first [] place less = refl
none_before test first (name ∷ names) place less =
    count-append place (place_where (test name) first) (places_from test (first + 1) names)
    ∙ omega (arith, count_there place first (test name) less, none_before test (first + 1) names place (omega (arith, less)))

count_from : (test : List ℕ → Bool) (first : ℕ) (names : List (List ℕ)) (index place : ℕ) → place ≡ first + index → count_of place (places_from test first names) ≡ once_at test (slice_get names index)
count_from test first [] index place is = refl
count_from test first (name ∷ names) zero place is =
    count-append place (place_where (test name) first) (places_from test (first + 1) names)
    ∙ omega (arith, count_at first place (test name) (omega (arith, is)), none_before test (first + 1) names place (omega (arith, is)))
count_from test first (name ∷ names) (suc index) place is =
    count-append place (place_where (test name) first) (places_from test (first + 1) names)
    ∙ omega (arith, count_behind place first (test name) (omega (arith, is)), count_from test (first + 1) names index place (omega (arith, is)))

count_where : (test : List ℕ → Bool) (names : List (List ℕ)) (place : ℕ) → count_of place (places_where test names) ≡ once_at test (slice_get names place)
count_where test names place = ap (count_of place) (places_where_from test names) ∙ count_from test 0 names place place (omega arith)

-- never, where no part has it
count_never : (place : ℕ) (parts : ℕ → List ℕ) (first count : ℕ) → ((part : ℕ) → first ≤ part → count_of place (parts part) ≡ 0) → count_of place (flat_map parts (range_with_len first count)) ≡ 0
count_never place parts first zero never = refl
count_never place parts first (suc count) never =
    count-append place (parts first) (flat_map parts (range_with_len (first + 1) count))
    ∙ omega (arith, never first (omega arith), count_never place parts (first + 1) count (λ part within. never part (omega (arith, within))))

count_once_by : (place : ℕ) (parts : ℕ → List ℕ) (one first count : ℕ) → ((part : ℕ) → count_of place (parts part) ≡ once (one == part)) → first ≤ one →
    (first + 1 ≤ one → count_of place (flat_map parts (range_with_len (first + 1) count)) ≡ 1) → (here : Bool) → (one == first) ≡ here →
    count_of place (parts first) + count_of place (flat_map parts (range_with_len (first + 1) count)) ≡ 1
count_once_by place parts one first count each from behind true is =
    let same : one ≡ first = eqb-true one first is in
    let never = count_never place parts (first + 1) count (λ part within. each part ∙ ap once (ne_eqb one part (λ other. omega (arith, same, within, other)))) in
    omega (arith, each first ∙ ap once is, never)
count_once_by place parts one first count each from behind false is =
    let other : one ≢ first = eqb-false one first is in
    omega (arith, each first ∙ ap once is, behind (omega (arith, from, other)))

-- once, where the part at one number alone has it
count_once : (place : ℕ) (parts : ℕ → List ℕ) (one first count : ℕ) → ((part : ℕ) → count_of place (parts part) ≡ once (one == part)) → first ≤ one → one < first + count →
    count_of place (flat_map parts (range_with_len first count)) ≡ 1
count_once place parts one first zero each from below = absurd (omega (arith, from, below))
count_once place parts one first (suc count) each from below =
    count-append place (parts first) (flat_map parts (range_with_len (first + 1) count))
    ∙ count_once_by place parts one first count each from (λ within. count_once place parts one (first + 1) count each within (omega (arith, below))) (one == first) refl

won_part : (names : List (List ℕ)) (patterns : List NamePattern) (place : ℕ) (name : List ℕ) (found : Option ℕ) → slice_get names place ≡ Some name → winner patterns name ≡ found →
    (winning : ℕ) → count_of place (places_where (wins patterns winning) names) ≡ once (is_place winning found)
won_part names patterns place name found is won winning =
    count_where (wins patterns winning) names place ∙ ap (once_at (wins patterns winning)) is ∙ ap (λ one. once (is_place winning one)) won

kept_times : (names : List (List ℕ)) (patterns : List NamePattern) (place : ℕ) (name : List ℕ) (found : Option ℕ) → slice_get names place ≡ Some name → winner patterns name ≡ found →
    count_of place (keep_places names patterns) ≡ once (is_met patterns name)
kept_times names patterns place name None is won =
    count_never place (λ winning. places_where (wins patterns winning) names) 0 (length patterns) (λ winning within. won_part names patterns place name None is won winning)
    ∙ ap once (sym (unwon_is_unmet patterns name won))
kept_times names patterns place name (Some winning) is won =
    let wins_name = winner_wins patterns name winning won in
    count_once place (λ winning. places_where (wins patterns winning) names) winning 0 (length patterns) (won_part names patterns place name (Some winning) is won)
    (omega arith) (omega (arith, slice_get_within patterns winning wins_name.pattern wins_name.stands))
    ∙ ap once (sym (won_is_met patterns name winning won))

pub kept_once : (names : List (List ℕ)) (patterns : List NamePattern) → KeptOnce names patterns
kept_once names patterns place name is = kept_times names patterns place name (winner patterns name) is refl

-- the places differ ---------------------------------------------------------------------------------------------------

once_below : (passes : Bool) → once passes ≤ 1
once_below true = omega arith
once_below false = omega arith

at_most_once : (names : List (List ℕ)) (patterns : List NamePattern) (place : ℕ) (at : Option (List ℕ)) → slice_get names place ≡ at → count_of place (keep_places names patterns) ≤ 1
at_most_once names patterns place None is =
    let never = count_never place (λ winning. places_where (wins patterns winning) names) 0 (length patterns)
    (λ winning within. count_where (wins patterns winning) names place ∙ ap (once_at (wins patterns winning)) is) in
    omega (arith, never)
at_most_once names patterns place (Some name) is = omega (arith, kept_once names patterns place name is, once_below (is_met patterns name))

differs_by : (place other : ℕ) (rest : ℕ) (same : Bool) → (other == place) ≡ same → once same + rest ≡ 0 → (place == other) ≡ false
differs_by place other rest true is none = absurd (omega (arith, none))
differs_by place other rest false is none = let different : other ≢ place = eqb-false other place is in ne_eqb place other (λ same. different (sym same))

not_there : (place : ℕ) (others : List ℕ) → count_of place others ≡ 0 → AllByRecursion (λ other. (place == other) ≡ false) others
not_there place [] none = tt
not_there place (other ∷ others) none = (differs_by place other (count_of place others) (other == place) refl none, not_there place others (omega (arith, none)))

differ : (places : List ℕ) → ((place : ℕ) → count_of place places ≤ 1) → IsDistinct (λ place other. place == other) places
unfolding IsDistinct
differ [] once_each = tt
differ (place ∷ places) once_each =
    let here = ap (λ same. once same + count_of place places) (eq-eqb place place refl) in
    (not_there place places (omega (arith, once_each place, here)), differ places (λ other. omega (arith, once_each other)))

pub kept_differ : (names : List (List ℕ)) (patterns : List NamePattern) → KeptDiffer names patterns
kept_differ names patterns = differ (keep_places names patterns) (λ place. at_most_once names patterns place (slice_get names place) refl)
