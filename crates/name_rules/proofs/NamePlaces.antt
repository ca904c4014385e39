-- Places by one more item, and the first item that passes a test.
use Rattle.std.proofs.Common.{◌≡◌, ℕ, zero, suc, ◌+◌, ◌<◌, Bool, true, false, cond, List, [], ◌∷◌, ◌++◌, length, map, filter, get_or, take, Option, Some, None, refl, sym, ap, ◌∙◌, append_assoc, add-one, arith}
use Rattle.std.proofs.Math.Seq.{take-suc, take-length}
use Rattle.std.proofs.lemmas.List.{length-take}
use Rattle.std.specs.Option.{option_or}
use Rattle.std.specs.List.{find, flat_map, range_with_len}
use Rattle.std.proofs.lemmas.List.Folds.{find-append}
use Rattle.name_rules.specs.NameRules.{Renaming, placed_from, placed, places_where, is_place, winner, wins, keep_places}
use Rattle.name_rules.specs.NamePlaces.{place_where, places_from}
use Rattle.esql_ast.specs.declared.query.NamePattern.{NamePattern}

append_none : {A : Type 0} (xs : List A) → xs ++ [] ≡ xs
append_none [] = refl
append_none (x ∷ xs) = ap (λ ys. x ∷ ys) (append_none xs)

-- the items in front of the next one, and that
pub front_more : {A : Type 0} (i : ℕ) (xs : List A) (x : A) → i < length xs → x ≡ get_or xs i x → take (i + 1) xs ≡ take i xs ++ x ∷ []
front_more i xs x less is = ap (λ n. take n xs) (add-one i) ∙ take-suc xs i x less ∙ ap (λ y. take i xs ++ y ∷ []) (sym is)

pub front_length : {A : Type 0} (i : ℕ) (xs : List A) → i < length xs → length (take i xs) ≡ i
front_length i xs less = grind (arith, length-take)

-- the places of one more item
places_snoc : {A : Type 0} (test : A → Bool) (first : ℕ) (xs : List A) (x : A) →
    places_from test first (xs ++ x ∷ []) ≡ places_from test first xs ++ place_where (test x) (first + length xs)
places_snoc test first [] x = append_none (place_where (test x) first) ∙ ap (place_where (test x)) (omega arith)
places_snoc test first (y ∷ xs) x =
    ap (λ left. place_where (test y) first ++ left) (places_snoc test (first + 1) xs x)
    ∙ sym (append_assoc (place_where (test y) first) (places_from test (first + 1) xs) (place_where (test x) (first + 1 + length xs)))
    ∙ ap (λ place. (place_where (test y) first ++ places_from test (first + 1) xs) ++ place_where (test x) place) (omega arith)

places_more : {A : Type 0} (test : A → Bool) (i : ℕ) (xs : List A) (x : A) → i < length xs → x ≡ get_or xs i x →
    places_from test 0 (take (i + 1) xs) ≡ places_from test 0 (take i xs) ++ place_where (test x) i
places_more test i xs x less is =
    ap (places_from test 0) (front_more i xs x less is)
    ∙ places_snoc test 0 (take i xs) x
    ∙ ap (λ place. places_from test 0 (take i xs) ++ place_where (test x) place) (omega (arith, front_length i xs less))

-- a loop that adds the places of the items that pass
pub pushed_more : {A : Type 0} (test : A → Bool) (i : ℕ) (xs : List A) (x : A) (before start after : List ℕ) (place : ℕ) (stays : Bool) → i < length xs → x ≡ get_or xs i x →
    place ≡ i → start ≡ before ++ places_from test 0 (take i xs) → stays ≡ test x → after ≡ start ++ place_where stays place → after ≡ before ++ places_from test 0 (take (i + 1) xs)
pushed_more test i xs x before start after place stays less is here begun same pushed =
    pushed
    ∙ (λ k. begun k ++ place_where (same k) (here k))
    ∙ append_assoc before (places_from test 0 (take i xs)) (place_where (test x) i)
    ∙ ap (λ left. before ++ left) (sym (places_more test i xs x less is))

first_place : (stays : Bool) (name : List ℕ) (first : ℕ) (these : List Renaming) (left : List ℕ) → map (λ (renaming : Renaming). renaming.place) these ≡ left →
    map (λ (renaming : Renaming). renaming.place) (cond stays (record { name = name; place = first } ∷ these) these) ≡ place_where stays first ++ left
first_place true name first these left same = ap (λ ys. first ∷ ys) same
first_place false name first these left same = same

-- the places of names are counted from 0
where_from : (test : List ℕ → Bool) (first : ℕ) (names : List (List ℕ)) →
    map (λ (renaming : Renaming). renaming.place) (filter (λ (renaming : Renaming). test renaming.name) (placed_from first names)) ≡ places_from test first names
where_from test first [] = refl
where_from test first (name ∷ names) = first_place (test name) name first _ _ (where_from test (first + 1) names)

pub places_where_from : (test : List ℕ → Bool) (names : List (List ℕ)) → places_where test names ≡ places_from test 0 names
places_where_from test names = where_from test 0 names

places_from_map : {A B : Type 0} (test : B → Bool) (f : A → B) (first : ℕ) (xs : List A) → places_from test first (map f xs) ≡ places_from (λ x. test (f x)) first xs
places_from_map test f first [] = refl
places_from_map test f first (x ∷ xs) = ap (λ left. place_where (test (f x)) first ++ left) (places_from_map test f (first + 1) xs)

-- the places that a pattern wins, by the names' winners
won_places : (names : List (List ℕ)) (patterns : List NamePattern) (place : ℕ) →
    places_from (is_place place) 0 (map (winner patterns) names) ≡ places_where (wins patterns place) names
won_places names patterns place =
    places_from_map (is_place place) (winner patterns) 0 names ∙ sym (places_where_from (wins patterns place) names)

flat_map_same : {A B : Type 0} (f g : A → List B) → ((x : A) → f x ≡ g x) → (xs : List A) → flat_map f xs ≡ flat_map g xs
flat_map_same f g same [] = refl
flat_map_same f g same (x ∷ xs) = λ k. same x k ++ flat_map_same f g same xs k

all_won_places : (names : List (List ℕ)) (patterns : List NamePattern) (places : List ℕ) →
    flat_map (λ place. places_from (is_place place) 0 (map (winner patterns) names)) places ≡ flat_map (λ place. places_where (wins patterns place) names) places
all_won_places names patterns places =
    flat_map_same (λ place. places_from (is_place place) 0 (map (winner patterns) names)) (λ place. places_where (wins patterns place) names) (won_places names patterns) places

-- one more place of a range
range_more_from : {B : Type 0} (f : ℕ → List B) (first n : ℕ) → flat_map f (range_with_len first (suc n)) ≡ flat_map f (range_with_len first n) ++ f (first + n)
range_more_from f first zero = append_none (f first) ∙ ap f (omega arith)
range_more_from f first (suc n) =
    ap (λ left. f first ++ left) (range_more_from f (first + 1) n)
    ∙ sym (append_assoc (f first) (flat_map f (range_with_len (first + 1) n)) (f (first + 1 + n)))
    ∙ ap (λ place. (f first ++ flat_map f (range_with_len (first + 1) n)) ++ f place) (omega arith)

range_more : {B : Type 0} (f : ℕ → List B) (n : ℕ) → flat_map f (range_with_len 0 (n + 1)) ≡ flat_map f (range_with_len 0 n) ++ f n
range_more f n =
    ap (λ count. flat_map f (range_with_len 0 count)) (add-one n) ∙ range_more_from f 0 n ∙ ap (λ place. flat_map f (range_with_len 0 n) ++ f place) (omega arith)

-- the places that one more pattern wins
pub kept_more : (names : List (List ℕ)) (patterns : List NamePattern) (place : ℕ) (won : List (Option ℕ)) (before after : List ℕ) → won ≡ map (winner patterns) names →
    before ≡ flat_map (λ place. places_from (is_place place) 0 (map (winner patterns) names)) (range_with_len 0 place) → after ≡ before ++ places_from (is_place place) 0 won →
    after ≡ flat_map (λ place. places_from (is_place place) 0 (map (winner patterns) names)) (range_with_len 0 (place + 1))
kept_more names patterns place won before after winners begun pushed =
    pushed ∙ (λ k. begun k ++ places_from (is_place place) 0 (winners k)) ∙ sym (range_more (λ place. places_from (is_place place) 0 (map (winner patterns) names)) place)

pub kept_all : (names : List (List ℕ)) (patterns : List NamePattern) (end : ℕ) (places : List ℕ) → end ≡ length patterns →
    places ≡ flat_map (λ place. places_from (is_place place) 0 (map (winner patterns) names)) (range_with_len 0 end) → places ≡ keep_places names patterns
kept_all names patterns end places all kept =
    kept
    ∙ all_won_places names patterns (range_with_len 0 end)
    ∙ ap (λ count. flat_map (λ place. places_where (wins patterns place) names) (range_with_len 0 count)) all

-- the places of all names that pass
pub where_all : (test : List ℕ → Bool) (names items : List (List ℕ)) (i : ℕ) (places : List ℕ) → items ≡ names → i ≡ length items → places ≡ places_from test 0 (take i items) →
    places ≡ places_where test names
where_all test names items i places same all pushed =
    pushed
    ∙ ap (λ count. places_from test 0 (take count items)) all
    ∙ ap (places_from test 0) (take-length items)
    ∙ ap (places_from test 0) same
    ∙ sym (places_where_from test names)

-- each place of one more name
placed_snoc : (first : ℕ) (names : List (List ℕ)) (name : List ℕ) → placed_from first (names ++ name ∷ []) ≡ placed_from first names ++ record { name = name; place = first + length names } ∷ []
placed_snoc first [] name = ap (λ place. record { name = name; place = place } ∷ []) (omega arith)
placed_snoc first (other ∷ names) name =
    ap (λ left. record { name = other; place = first } ∷ left) (placed_snoc (first + 1) names name)
    ∙ ap (λ place. record { name = other; place = first } ∷ (placed_from (first + 1) names ++ record { name = name; place = place } ∷ [])) (omega arith)

placed_more : (i : ℕ) (names : List (List ℕ)) (name : List ℕ) → i < length names → name ≡ get_or names i name →
    placed (take (i + 1) names) ≡ placed (take i names) ++ record { name = name; place = i } ∷ []
placed_more i names name less is =
    ap placed (front_more i names name less is)
    ∙ placed_snoc 0 (take i names) name
    ∙ ap (λ place. placed (take i names) ++ record { name = name; place = place } ∷ []) (omega (arith, front_length i names less))

-- a loop that adds each name with its place
pub placed_next : (i : ℕ) (names : List (List ℕ)) (name copy : List ℕ) (place : ℕ) (before after : List Renaming) → i < length names → name ≡ get_or names i name → place ≡ i → copy ≡ name →
    before ≡ placed (take i names) → after ≡ before ++ record { name = copy; place = place } ∷ [] → after ≡ placed (take (i + 1) names)
placed_next i names name copy place before after less is here same begun pushed =
    pushed ∙ (λ k. begun k ++ record { name = same k; place = here k } ∷ []) ∙ sym (placed_more i names name less is)

-- the first item that passes
pub find_none_more : {A : Type 0} (test : A → Bool) (i : ℕ) (xs : List A) (x : A) → i < length xs → x ≡ get_or xs i x →
    find test (take i xs) ≡ None → test x ≡ false → find test (take (i + 1) xs) ≡ None
find_none_more test i xs x less is none fails =
    ap (find test) (front_more i xs x less is) ∙ find-append test (take i xs) (x ∷ []) ∙ ap (λ found. option_or found (find test (x ∷ []))) none ∙ ap (λ passes. cond passes (Some x) None) fails

pub find_some_at : {A : Type 0} (test : A → Bool) (i : ℕ) (xs : List A) (x : A) → i < length xs → x ≡ get_or xs i x →
    find test (take i xs) ≡ None → test x ≡ true → find test xs ≡ Some x
find_some_at test i [] x less is none passes = absurd (omega (arith, less))
find_some_at test zero (y ∷ xs) x less is none passes =
    ap (λ found. cond (test found) (Some found) (find test xs)) (sym is) ∙ ap (λ b. cond b (Some x) (find test xs)) passes
find_some_at test (suc i) (y ∷ xs) x less is none passes =
    past_first (test y) y (find test (take i xs)) (find test xs) x none (λ none_before. find_some_at test i xs x (omega (arith, less)) is none_before passes)
  where
    past_first : {B : Type 0} (b : Bool) (y : B) (before all : Option B) (x : B) → cond b (Some y) before ≡ None → (before ≡ None → all ≡ Some x) → cond b (Some y) all ≡ Some x
    past_first true y before all x none then = absurd cc
    past_first false y before all x none then = then none
