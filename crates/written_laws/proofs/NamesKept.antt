-- KEEP, DROP and RENAME keep names apart.
use Rattle.std.proofs.Common.{◌≡◌, ℕ, suc, ◌+◌, Bool, true, false, not, cond, List, [], ◌∷◌, ◌++◌, map, filter, length, fold, Some, None, is_some, refl, ap, sym, subst, ◌∙◌, append_assoc, arith}
use Rattle.std.specs.Prelude.{slice_get}
use Rattle.std.specs.List.{AllByRecursion, flat_map, filter_map, cons_option, range_with_len}
use Rattle.std.specs.Option.{option_map}
use Rattle.std.specs.Str.{bytes_eq}
use Rattle.std.specs.Cmp.Lexicographic.{nat_list_eq_equiv}
use Rattle.std.proofs.lemmas.List.Elements.{filter_map-append}
use Rattle.esql_types.specs.declared.names.Column.{Column}
use Rattle.esql_ast.specs.declared.query.NamePattern.{NamePattern}
use Rattle.esql_ast.specs.declared.query.RenamePair.{RenamePair}
use Rattle.name_rules.specs.NameRules.{Renaming, placed_from, placed, places_where, winner, wins, keep_places, is_met, drop_places, at_places, stays, with_new_name, rename_pair, is_there, with_pair, renamings, renamed_by}
use Rattle.row_semantics.specs.Columns.{names_of, HaveDistinctNames, column_as}
use Rattle.query_semantics.proofs.Squares.{flat_map_same, at_places-map}
use Rattle.query_semantics.proofs.Distinct.{AreDistinct, IsOther, distinct_head, distinct_tail, distinct_cons, distinct_filter, distinct_won}

-- the names at the places of those that pass a test are those that pass it ------------------------------------------------

slice_get-behind : {A : Type 0} (before : List A) (x : A) (after : List A) → slice_get (before ++ x ∷ after) (length before) ≡ Some x
slice_get-behind [] x after = refl
slice_get-behind (first ∷ before) x after = slice_get-behind before x after

length-push : {A : Type 0} (before : List A) (x : A) → length (before ++ x ∷ []) ≡ length before + 1
length-push [] x = refl
length-push (first ∷ before) x = ap (λ n. suc n) (length-push before x) ∙ omega arith

abbrev places_from : (List ℕ → Bool) → ℕ → List (List ℕ) → List ℕ
places_from test first names = map (λ (renaming : Renaming). renaming.place) (filter (λ (renaming : Renaming). test renaming.name) (placed_from first names))

abbrev found_at : List (List ℕ) → List ℕ → List (List ℕ)
found_at whole places = filter_map (λ (place : ℕ). slice_get whole place) places

at_places-from : (test : List ℕ → Bool) (before rest whole : List (List ℕ)) (first : ℕ) → whole ≡ before ++ rest → first ≡ length before → found_at whole (places_from test first rest) ≡ filter test rest
at_places-from test before [] whole first is here = refl
at_places-from test before (name ∷ rest) whole first is here =
    let next = at_places-from test (before ++ name ∷ []) rest whole (first + 1) (is ∙ sym (append_assoc before (name ∷ []) rest)) (ap (λ n. n + 1) here ∙ sym (length-push before name)) in
    let found : slice_get whole first ≡ Some name = (λ i. slice_get (is i) (here i)) ∙ slice_get-behind before name rest in
    elim (test name) as (λ passes. found_at whole (map (λ (renaming : Renaming). renaming.place)
    (cond passes (record { name = name; place = first } ∷ filter (λ (renaming : Renaming). test renaming.name) (placed_from (first + 1) rest)) (filter (λ (renaming : Renaming). test renaming.name) (placed_from (first + 1) rest))))
    ≡ cond passes (name ∷ filter test rest) (filter test rest))
    [ true ↦ (λ i. cons_option (found i) (next i)) | false ↦ next ]

at_places-where : (test : List ℕ → Bool) (names : List (List ℕ)) → at_places (places_where test names) names ≡ filter test names
at_places-where test names = at_places-from test [] names names 0 refl refl

at_places-flat_map : {A : Type 0} (places : ℕ → List ℕ) (items : List A) (numbers : List ℕ) → at_places (flat_map places numbers) items ≡ flat_map (λ number. at_places (places number) items) numbers
at_places-flat_map places items [] = refl
at_places-flat_map places items (number ∷ numbers) =
    filter_map-append (λ place. slice_get items place) (places number) (flat_map places numbers)
    ∙ ap (λ these. at_places (places number) items ++ these) (at_places-flat_map places items numbers)

itself : (names : List (List ℕ)) → map (λ name. name) names ≡ names
itself [] = refl
itself (name ∷ names) = ap (λ rest. name ∷ rest) (itself names)

-- KEEP and DROP ---------------------------------------------------------------------------------------------------------

keep_distinct : (names : List (List ℕ)) (patterns : List NamePattern) → AreDistinct names → AreDistinct (at_places (keep_places names patterns) names)
keep_distinct names patterns distinct =
    subst AreDistinct
    (sym (at_places-flat_map (λ place. places_where (wins patterns place) names) names (range_with_len 0 (length patterns))
    ∙ flat_map_same (λ place. at_places (places_where (wins patterns place) names) names) (λ place. filter (wins patterns place) names) (λ place. at_places-where (wins patterns place) names)
    (range_with_len 0 (length patterns))))
    (distinct_won (winner patterns) names 0 (length patterns) distinct)

drop_distinct : (names : List (List ℕ)) (patterns : List NamePattern) → AreDistinct names → AreDistinct (at_places (drop_places names patterns) names)
drop_distinct names patterns distinct =
    let test : List ℕ → Bool = λ name. not (is_met patterns name) in
    subst AreDistinct (itself (filter test names) ∙ sym (at_places-where test names)) (distinct_filter (λ name. name) test names (subst AreDistinct (sym (itself names)) distinct))

-- and so of columns
pub columns_keep : (columns : List Column) (patterns : List NamePattern) → HaveDistinctNames columns → HaveDistinctNames (at_places (keep_places (names_of columns) patterns) columns)
columns_keep columns patterns distinct =
    subst AreDistinct (at_places-map (λ (column : Column). column.name) (keep_places (names_of columns) patterns) columns) (keep_distinct (names_of columns) patterns distinct)

pub columns_drop : (columns : List Column) (patterns : List NamePattern) → HaveDistinctNames columns → HaveDistinctNames (at_places (drop_places (names_of columns) patterns) columns)
columns_drop columns patterns distinct =
    subst AreDistinct (at_places-map (λ (column : Column). column.name) (drop_places (names_of columns) patterns) columns) (drop_distinct (names_of columns) patterns distinct)

-- RENAME ------------------------------------------------------------------------------------------------------------------

abbrev names_in : List Renaming → List (List ℕ)
names_in these = map (λ (renaming : Renaming). renaming.name) these

placed_names : (first : ℕ) (names : List (List ℕ)) → names_in (placed_from first names) ≡ names
placed_names first [] = refl
placed_names first (name ∷ names) = ap (λ rest. name ∷ rest) (placed_names (first + 1) names)

-- the name after a pair
abbrev new_name : RenamePair → List ℕ → List ℕ
new_name pair name = cond (bytes_eq name pair.before.name) pair.after.name name

name_after : (pair : RenamePair) (renaming : Renaming) → (with_new_name pair renaming).name ≡ new_name pair renaming.name
name_after pair renaming =
    elim (bytes_eq renaming.name pair.before.name) as (λ same. (cond same (record { name = pair.after.name; place = renaming.place }) renaming).name ≡ cond same pair.after.name renaming.name) [ true ↦ refl | false ↦ refl ]

abbrev stays_by : Bool → Bool → Bool
stays_by is_before is_after = cond is_before true (not is_after)

-- the new name of one that stays is other than the new names of those behind it that stay
others_stay : (pair : RenamePair) (name other : List ℕ) (name_before name_after other_before other_after : Bool)
    → bytes_eq name pair.before.name ≡ name_before → bytes_eq name pair.after.name ≡ name_after → bytes_eq other pair.before.name ≡ other_before → bytes_eq other pair.after.name ≡ other_after
    → stays_by name_before name_after ≡ true → stays_by other_before other_after ≡ true → IsOther name other → IsOther (cond name_before pair.after.name name) (cond other_before pair.after.name other)
others_stay pair name other true name_after true other_after nb na ob oa name_stays other_stays apart =
    absurd (let both : true ≡ false = sym (nat_list_eq_equiv.congr name pair.before.name other nb ∙ nat_list_eq_equiv.symm pair.before.name other ∙ ob) ∙ apart in cc)
others_stay pair name other true name_after false true nb na ob oa name_stays other_stays apart = absurd cc
others_stay pair name other true name_after false false nb na ob oa name_stays other_stays apart = nat_list_eq_equiv.symm pair.after.name other ∙ oa
others_stay pair name other false true other_before other_after nb na ob oa name_stays other_stays apart = absurd cc
others_stay pair name other false false true other_after nb na ob oa name_stays other_stays apart = na
others_stay pair name other false false false other_after nb na ob oa name_stays other_stays apart = apart

abbrev renamed_names : RenamePair → List Renaming → List (List ℕ)
renamed_names pair these = names_in (rename_pair these pair)

each_other : (pair : RenamePair) (name : List ℕ) (these : List Renaming) → stays_by (bytes_eq name pair.before.name) (bytes_eq name pair.after.name) ≡ true → AllByRecursion (IsOther name) (names_in these)
    → AllByRecursion (IsOther (new_name pair name)) (renamed_names pair these)
each_other pair name [] name_stays apart = tt
each_other pair name (renaming ∷ these) name_stays apart = one (stays pair renaming) refl (each_other pair name these name_stays apart.1)
  where
    one : (stayed : Bool) → stays pair renaming ≡ stayed → AllByRecursion (IsOther (new_name pair name)) (renamed_names pair these)
        → AllByRecursion (IsOther (new_name pair name)) (names_in (map (with_new_name pair) (cond stayed (renaming ∷ filter (stays pair) these) (filter (stays pair) these))))
    one true is rest =
        (subst (IsOther (new_name pair name)) (sym (name_after pair renaming)) (others_stay pair name renaming.name _ _ _ _ refl refl refl refl name_stays is apart.0), rest)
    one false is rest = rest

pair_distinct : (pair : RenamePair) (these : List Renaming) → AreDistinct (names_in these) → AreDistinct (renamed_names pair these)
pair_distinct pair [] distinct = distinct
pair_distinct pair (renaming ∷ these) distinct = one (stays pair renaming) refl (pair_distinct pair these (distinct_tail renaming.name (names_in these) distinct))
  where
    one : (stayed : Bool) → stays pair renaming ≡ stayed → AreDistinct (renamed_names pair these)
        → AreDistinct (names_in (map (with_new_name pair) (cond stayed (renaming ∷ filter (stays pair) these) (filter (stays pair) these))))
    one true is rest =
        subst (λ name. AreDistinct (name ∷ renamed_names pair these)) (sym (name_after pair renaming))
        (distinct_cons (new_name pair renaming.name) (renamed_names pair these) (each_other pair renaming.name these is (distinct_head renaming.name (names_in these) distinct)) rest)
    one false is rest = rest

with_pair_distinct : (pair : RenamePair) (these : List Renaming) → AreDistinct (names_in these) → AreDistinct (names_in (with_pair these pair))
with_pair_distinct pair these distinct =
    elim (is_there these pair.before.name) as (λ there. AreDistinct (names_in (cond there (rename_pair these pair) these))) [ true ↦ pair_distinct pair these distinct | false ↦ distinct ]

pairs_distinct : (pairs : List RenamePair) (these : List Renaming) → AreDistinct (names_in these) → AreDistinct (names_in (fold with_pair these pairs))
pairs_distinct [] these distinct = distinct
pairs_distinct (pair ∷ pairs) these distinct = pairs_distinct pairs (with_pair these pair) (with_pair_distinct pair these distinct)

-- the names of the columns that are there
renamed_there : (these : List Renaming) (columns : List Column) → names_of (renamed_by column_as these columns) ≡ names_in (filter (λ (renaming : Renaming). is_some (slice_get columns renaming.place)) these)
renamed_there [] columns = refl
renamed_there (renaming ∷ these) columns =
    elim (slice_get columns renaming.place) as (λ found. names_of (cons_option (option_map (column_as renaming.name) found) (renamed_by column_as these columns))
    ≡ names_in (cond (is_some found) (renaming ∷ filter (λ (renaming : Renaming). is_some (slice_get columns renaming.place)) these) (filter (λ (renaming : Renaming). is_some (slice_get columns renaming.place)) these)))
    [ Some column ↦ ap (λ rest. renaming.name ∷ rest) (renamed_there these columns) | None ↦ renamed_there these columns ]

pub columns_rename : (columns : List Column) (pairs : List RenamePair) → HaveDistinctNames columns → HaveDistinctNames (renamed_by column_as (renamings (names_of columns) pairs) columns)
columns_rename columns pairs distinct =
    let these : List Renaming = renamings (names_of columns) pairs in
    let before : AreDistinct (names_in (placed (names_of columns))) = subst AreDistinct (sym (placed_names 0 (names_of columns))) distinct in
    subst AreDistinct (sym (renamed_there these columns))
    (distinct_filter (λ (renaming : Renaming). renaming.name) (λ (renaming : Renaming). is_some (slice_get columns renaming.place)) these (pairs_distinct pairs (placed (names_of columns)) before))
