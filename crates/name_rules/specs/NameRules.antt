-- The columns that KEEP, DROP and RENAME leave of a table's, and their names.
use Rattle.std.specs.Prelude.{ℕ, ◌+◌, ◌==◌, ◌&&◌, Bool, true, false, not, List, [], ◌∷◌, length, map, filter, fold, slice_get, Option, Some, None, if◌then◌else◌}
use Rattle.std.specs.List.{flat_map, filter_map, list_any, list_all, find, range_with_len}
use Rattle.std.specs.Option.{option_map, option_or}
use Rattle.std.specs.Str.{bytes_eq, chars}
use Rattle.name_rules.specs.declared.names.Renamed.{Renamed}
use Rattle.esql_ast.specs.declared.query.NamePattern.{NamePattern}
use Rattle.esql_ast.specs.declared.query.RenamePair.{RenamePair}

-- patterns of names ------------------------------------------------------------------------------------------------

-- a part of a pattern: any run of characters, or a character itself
pub data NamePart : Type 0 where
  any_run : NamePart
  itself : ℕ → NamePart

-- `*` is any run of characters, every other character itself
abbrev pub part_of : ℕ → NamePart
part_of character = if character == 42 then any_run else itself character

abbrev pub parts_of : List ℕ → List NamePart
parts_of pattern = map part_of (chars pattern)

-- a list and what is left of it behind each of its items
abbrev pub tails : List ℕ → List (List ℕ)
tails [] = [] ∷ []
tails (item ∷ items) = (item ∷ items) ∷ tails items

-- the characters are what the parts stand for, one after another
abbrev pub stands_for : List NamePart → List ℕ → Bool
stands_for [] [] = true
stands_for [] (character ∷ characters) = false
stands_for (any_run ∷ parts) characters = list_any (stands_for parts) (tails characters)
stands_for (itself own ∷ parts) [] = false
stands_for (itself own ∷ parts) (character ∷ characters) = own == character && stands_for parts characters

-- the pattern stands for the whole name
abbrev pub like_name : List ℕ → List ℕ → Bool
like_name pattern name = stands_for (parts_of pattern) (chars name)

-- a pattern with `*` meets the names that it stands for, a full name itself alone
abbrev pub meets : NamePattern → List ℕ → Bool
meets pattern name = if pattern.wild then like_name pattern.text name else bytes_eq pattern.text name

abbrev pub is_unmet : List (List ℕ) → NamePattern → Bool
is_unmet names pattern = not (list_any (meets pattern) names)

-- the first pattern that no name meets, if there is one
abbrev pub first_unmet : List (List ℕ) → List NamePattern → Option NamePattern
first_unmet names patterns = find (is_unmet names) patterns

-- which pattern wins a name ----------------------------------------------------------------------------------------

-- the text is `*` alone, once or more
abbrev pub is_star : List ℕ → Bool
is_star text = list_all (λ byte. byte == 42) text

-- 2 of a full name, 1 of a pattern with `*` and other characters, 0 of `*` alone
abbrev pub rank_of : NamePattern → ℕ
rank_of pattern = if pattern.wild then (if is_star pattern.text then 0 else 1) else 2

-- the place of the last item that passes the test
abbrev pub last_place : {X : Type 0} → (X → Bool) → List X → Option ℕ
last_place test [] = None
last_place test (item ∷ items) = option_or (option_map (λ place. place + 1) (last_place test items)) (if test item then Some 0 else None)

-- the pattern is of the rank and meets the name
abbrev pub meets_at_rank : ℕ → List ℕ → NamePattern → Bool
meets_at_rank rank name pattern = rank_of pattern == rank && meets pattern name

-- the place of the rightmost pattern of a rank that meets the name
abbrev pub last_of_rank : ℕ → List NamePattern → List ℕ → Option ℕ
last_of_rank rank patterns name = last_place (meets_at_rank rank name) patterns

-- the place of the pattern that wins a name: the rightmost of the highest rank of those that meet it
abbrev pub winner : List NamePattern → List ℕ → Option ℕ
winner patterns name = option_or (last_of_rank 2 patterns name) (option_or (last_of_rank 1 patterns name) (last_of_rank 0 patterns name))

-- KEEP and DROP ----------------------------------------------------------------------------------------------------

-- a place and the name that its column has
abbrev pub Renaming : Type 0
Renaming = Renamed

-- each place with its name, where the first is at a place
abbrev pub placed_from : ℕ → List (List ℕ) → List Renaming
placed_from place [] = []
placed_from place (name ∷ names) = record { name = name; place = place } ∷ placed_from (place + 1) names

-- each place with its name
abbrev pub placed : List (List ℕ) → List Renaming
placed names = placed_from 0 names

-- the places of the names that pass the test
abbrev pub places_where : (List ℕ → Bool) → List (List ℕ) → List ℕ
places_where test names = map (λ (renaming : Renaming). renaming.place) (filter (λ (renaming : Renaming). test renaming.name) (placed names))

abbrev pub is_place : ℕ → Option ℕ → Bool
is_place place None = false
is_place place (Some found) = found == place

-- the pattern at the place wins the name
abbrev pub wins : List NamePattern → ℕ → List ℕ → Bool
wins patterns place name = is_place place (winner patterns name)

-- the places that KEEP leaves: for each pattern in turn those of the names that it wins, in their order
abbrev pub keep_places : List (List ℕ) → List NamePattern → List ℕ
keep_places names patterns = flat_map (λ place. places_where (wins patterns place) names) (range_with_len 0 (length patterns))

-- some pattern meets the name
abbrev pub is_met : List NamePattern → List ℕ → Bool
is_met patterns name = list_any (λ (pattern : NamePattern). meets pattern name) patterns

-- the places that DROP leaves: those of the names that no pattern meets
abbrev pub drop_places : List (List ℕ) → List NamePattern → List ℕ
drop_places names patterns = places_where (λ name. not (is_met patterns name)) names

-- the items at places; a place that is not there is left out
abbrev pub at_places : {X : Type 0} → List ℕ → List X → List X
at_places places items = filter_map (λ (place : ℕ). slice_get items place) places

-- RENAME -----------------------------------------------------------------------------------------------------------

abbrev pub is_named : List ℕ → Renaming → Bool
is_named name renaming = bytes_eq renaming.name name

-- a column of the old name is not in the way of it, another of the new name is
abbrev pub stays : RenamePair → Renaming → Bool
stays pair renaming = if is_named pair.before.name renaming then true else not (is_named pair.after.name renaming)

-- the column of the old name gets the new one
abbrev pub with_new_name : RenamePair → Renaming → Renaming
with_new_name pair renaming = if is_named pair.before.name renaming then record { name = pair.after.name; place = renaming.place } else renaming

-- another column of the new name goes, then the column of the old name gets the new one in its place
abbrev pub rename_pair : List Renaming → RenamePair → List Renaming
rename_pair these pair = map (with_new_name pair) (filter (stays pair) these)

abbrev pub is_there : List Renaming → List ℕ → Bool
is_there these name = list_any (is_named name) these

-- a pair on what stands so far; it changes nothing where its old name is not there
abbrev pub with_pair : List Renaming → RenamePair → List Renaming
with_pair these pair = if is_there these pair.before.name then rename_pair these pair else these

-- the columns that RENAME leaves, each with its new name and the place that it had
abbrev pub renamings : List (List ℕ) → List RenamePair → List Renaming
renamings names pairs = fold with_pair (placed names) pairs

-- the first pair whose old name is not there at its turn, of columns that stand so far
abbrev pub first_missing_of : List Renaming → List RenamePair → Option RenamePair
first_missing_of these [] = None
first_missing_of these (pair ∷ pairs) = if is_there these pair.before.name then first_missing_of (with_pair these pair) pairs else Some pair

-- the first pair whose old name is not there at its turn
abbrev pub first_missing : List (List ℕ) → List RenamePair → Option RenamePair
first_missing names pairs = first_missing_of (placed names) pairs

-- the items at the places, under their new names
abbrev pub renamed_by : {X : Type 0} → (List ℕ → X → X) → List Renaming → List X → List X
renamed_by with_name these items = filter_map (λ (renaming : Renaming). option_map (with_name renaming.name) (slice_get items renaming.place)) these
