-- A pattern of DISSECT or GROK has no more columns than bytes.
use Rattle.std.proofs.Common.{ℕ, zero, suc, ◌+◌, ◌≤◌, ◌<◌, Bool, true, false, cond, nat_eq, List, [], ◌∷◌, ◌++◌, length, drop, Option, Some, None, IfSome, arith, length-append, length-drop}
use Rattle.std.specs.Prelude.{fold, option_map, option_and_then, codes}
use Rattle.std.specs.List.{list_any, starts_with}
use Rattle.std.specs.Str.{bytes_eq}
use Rattle.std.proofs.lemmas.List.{length-map}
use Rattle.esql_types.specs.declared.names.Column.{Column}
use Rattle.dissect_grok.specs.declared.keys.Key.{Key}
use Rattle.dissect_grok.specs.declared.place.Place.{Place}
use Rattle.dissect_grok.specs.Texts.{cut_at, with_byte, with_nothing}
use Rattle.dissect_grok.specs.Patterns.{Part, are_good, first_part, key_of, keys_behind, keys_from, keys_of, keys_within, name_in, names_of, reading_with, with_key, with_name}
use Rattle.dissect_grok.specs.Groks.{GrokRead, Reference, if_good, is_good, read_behind, read_reference, read_within, reference_of, with_column, with_group, with_literal, with_reference}
use Rattle.dissect_grok.specs.Library.{written_out}
use Rattle.plan_semantics.specs.Taken.{columns_of_grok, columns_of_reading, columns_in_grok, dissect_columns, keyword_column}

-- what stands behind a delimiter is no longer than the text
cut_shorter : (delimiter text : List ℕ) → IfSome (cut_at delimiter text) (λ (parts : List ℕ × List ℕ). length parts.1 ≤ length text)
cut_shorter delimiter [] = go (starts_with nat_eq [] delimiter)
  where
    go : (test : Bool) → IfSome (option_map with_nothing (cond test (Some (drop (length delimiter) [])) None)) (λ (parts : List ℕ × List ℕ). length parts.1 ≤ 0)
    go true = omega (arith, length-drop {A = ℕ} (length delimiter) [])
    go false = tt
cut_shorter delimiter (byte ∷ bytes) = go (starts_with nat_eq (byte ∷ bytes) delimiter) (cut_at delimiter bytes) (cut_shorter delimiter bytes)
  where
    go : (test : Bool) (later : Option (List ℕ × List ℕ)) → IfSome later (λ (parts : List ℕ × List ℕ). length parts.1 ≤ length bytes)
        → IfSome (cond test (Some (with_nothing (drop (length delimiter) (byte ∷ bytes)))) (option_map (with_byte byte) later)) (λ (parts : List ℕ × List ℕ). length parts.1 ≤ length (byte ∷ bytes))
    go true later shorter = omega (arith, length-drop (length delimiter) (byte ∷ bytes))
    go false None shorter = tt
    go false (Some parts) shorter = omega arith

-- DISSECT ------------------------------------------------------------------------------------------------------------------

with_key_few : (count : ℕ) (key : Option Key) (keys : Option (List Key)) → IfSome keys (λ (these : List Key). length these ≤ count) → IfSome (with_key key keys) (λ (these : List Key). length these ≤ suc count)
with_key_few count None keys few = tt
with_key_few count (Some key) None few = tt
with_key_few count (Some key) (Some keys) few = omega arith

behind_few : (count : ℕ) (more : List ℕ → Option (List Key)) → ((rest : List ℕ) → IfSome (more rest) (λ (these : List Key). length these ≤ count))
    → (rest : Option (List ℕ)) → IfSome (keys_behind more rest) (λ (these : List Key). length these ≤ count)
behind_few count more few None = omega arith
behind_few count more few (Some rest) = few rest

keys_from_few : (count : ℕ) (more : List ℕ → Option (List Key)) → ((rest : List ℕ) → IfSome (more rest) (λ (these : List Key). length these ≤ count))
    → (part : Option Part) → IfSome (keys_from more part) (λ (these : List Key). length these ≤ suc count)
keys_from_few count more few None = tt
keys_from_few count more few (Some part) = with_key_few count (key_of part.text part.delimiter) (keys_behind more part.rest) (behind_few count more few part.rest)

keys_within_few : (count : ℕ) (text : List ℕ) → IfSome (keys_within count text) (λ (these : List Key). length these ≤ count)
keys_within_few zero text = tt
keys_within_few (suc count) text = keys_from_few count (λ rest. keys_within count rest) (keys_within_few count) (first_part text)

-- a name for a key at most
name_few : (names : List (List ℕ)) (name : Option (List ℕ)) → length (with_name names name) ≤ length names + 1
name_few names None = omega arith
name_few names (Some name) = go (list_any (bytes_eq name) names)
  where
    go : (test : Bool) → length (cond test names (names ++ name ∷ [])) ≤ length names + 1
    go true = omega arith
    go false = omega (arith, length-append names (name ∷ []))

names_few : (keys : List Key) (names : List (List ℕ)) → length (fold (λ names (key : Key). with_name names (name_in key.form)) names keys) ≤ length names + length keys
names_few [] names = omega arith
names_few (key ∷ keys) names = let one = name_few names (name_in key.form) in let rest = names_few keys (with_name names (name_in key.form)) in omega arith

reading_with_few : (most : ℕ) (first separator : List ℕ) (keys : Option (List Key)) → IfSome keys (λ (these : List Key). length these ≤ most)
    → length (columns_of_reading (reading_with first separator keys)) ≤ most
reading_with_few most first separator None few = omega arith
reading_with_few most first separator (Some keys) few = go (are_good keys)
  where
    go : (good : Bool) → length (columns_of_reading (cond good (Some (record { first = first; keys = keys; separator = separator })) None)) ≤ most
    go true = let names = names_few keys [] in let same = length-map (names_of keys) keyword_column in omega arith
    go false = omega arith

-- keys are at most as many as the bytes behind the first literal
cut_few : (most : ℕ) (separator : List ℕ) (cut : Option (List ℕ × List ℕ)) → IfSome cut (λ (parts : List ℕ × List ℕ). length parts.1 ≤ most)
    → length (columns_of_reading (option_and_then (λ (parts : List ℕ × List ℕ). reading_with parts.0 separator (keys_of parts.1)) cut)) ≤ most
cut_few most separator None shorter = omega arith
cut_few most separator (Some parts) shorter =
    let few = reading_with_few (length parts.1) parts.0 separator (keys_of parts.1) (keys_within_few (length parts.1) parts.1) in omega arith

pub dissect_few : (pattern separator : List ℕ) → length (dissect_columns pattern separator) ≤ length pattern
dissect_few pattern separator = cut_few (length pattern) separator (cut_at (codes "%{") pattern) (cut_shorter (codes "%{") pattern)

-- GROK ---------------------------------------------------------------------------------------------------------------------

-- at most so many places, or fewer
abbrev HasPlaces : ℕ → Option GrokRead → Type 0
HasPlaces most read = IfSome read (λ (these : GrokRead). length these.places ≤ most)

abbrev HasFewer : ℕ → Option GrokRead → Type 0
HasFewer most read = IfSome read (λ (these : GrokRead). length these.places < most)

group_few : (read : GrokRead) (place : Option Place) (expression : List ℕ) → length (with_group read place expression).places ≤ length read.places + 1
group_few read None expression = omega arith
group_few read (Some place) expression = omega (arith, length-append read.places (place ∷ []))

group_of_few : (read : GrokRead) (place : Option Place) (expression : Option (List ℕ)) → HasPlaces (length read.places + 1) (option_map (with_group read place) expression)
group_of_few read place None = tt
group_of_few read place (Some expression) = group_few read place expression

with_reference_few : (read : GrokRead) (reference : Option Reference) → HasPlaces (length read.places + 1) (with_reference read reference)
with_reference_few read None = tt
with_reference_few read (Some reference) = group_of_few read reference.place (written_out reference.syntax)

-- what reads the rest of a pattern adds fewer than so many places
abbrev AddsFewer : ℕ → (GrokRead → List ℕ → Option GrokRead) → Type 0
AddsFewer count more = (read : GrokRead) (text : List ℕ) → HasFewer (length read.places + count) (more read text)

next_few : (count most : ℕ) (more : GrokRead → List ℕ → Option GrokRead) → AddsFewer count more → (rest : List ℕ) (next : Option GrokRead) → HasPlaces most next
    → HasFewer (most + count) (option_and_then (λ next. more next rest) next)
next_few count most more few rest None so_far = tt
next_few count most more few rest (Some next) so_far = at_most (more next rest) (few next rest)
  where
    at_most : (read : Option GrokRead) → HasFewer (length next.places + count) read → HasFewer (most + count) read
    at_most None within = tt
    at_most (Some read) within = omega arith

reference_few : (count : ℕ) (more : GrokRead → List ℕ → Option GrokRead) → AddsFewer count more → (read : GrokRead) (cut : Option (List ℕ × List ℕ))
    → HasFewer (length read.places + 1 + count) (read_reference more read cut)
reference_few count more few read None = tt
reference_few count more few read (Some (text, rest)) =
    next_few count (length read.places + 1) more few rest (with_reference read (reference_of text)) (with_reference_few read (reference_of text))

behind_literal_few : (count : ℕ) (more : GrokRead → List ℕ → Option GrokRead) → AddsFewer count more → (read : GrokRead) (text : List ℕ) (cut : Option (List ℕ × List ℕ))
    → HasFewer (length read.places + 1 + count) (read_behind more read text cut)
behind_literal_few count more few read text None = omega arith
behind_literal_few count more few read text (Some (literal, behind)) = reference_few count more few (with_literal read literal) (cut_at (codes "}") behind)

-- one place more stands for one count less
shifted : (most other : ℕ) (read : Option GrokRead) → other ≤ most → HasFewer other read → HasFewer most read
shifted most other None less few = tt
shifted most other (Some read) less few = omega arith

within_few : (count : ℕ) → AddsFewer count (λ read text. read_within count read text)
within_few zero read text = tt
within_few (suc count) read text =
    let cut = cut_at (codes "%{") text in
    shifted (length read.places + suc count) (length read.places + 1 + count) (read_within (suc count) read text) (omega arith)
    (behind_literal_few count (λ next rest. read_within count next rest) (within_few count) read text cut)

-- a column for a place at most
column_few : (columns : List Column) (place : Place) → length (with_column columns place) ≤ length columns + 1
column_few columns place = go (list_any (λ (column : Column). bytes_eq place.name column.name) columns)
  where
    go : (test : Bool) → length (cond test columns (columns ++ record { name = place.name; kind = place.kind } ∷ [])) ≤ length columns + 1
    go true = omega arith
    go false = omega (arith, length-append columns (record { name = place.name; kind = place.kind } ∷ []))

columns_few : (places : List Place) (columns : List Column) → length (fold with_column columns places) ≤ length columns + length places
columns_few [] columns = omega arith
columns_few (place ∷ places) columns = let one = column_few columns place in let rest = columns_few places (with_column columns place) in omega arith

read_few : (most : ℕ) (read : Option GrokRead) → HasFewer (most + 1) read → length (columns_of_grok (option_and_then if_good read)) ≤ most
read_few most None few = omega arith
read_few most (Some read) few = go (is_good read)
  where
    go : (good : Bool) → length (columns_of_grok (cond good (Some read) None)) ≤ most
    go true = let columns = columns_few read.places [] in omega arith
    go false = omega arith

pub grok_few : (pattern : List ℕ) → length (columns_in_grok pattern) ≤ length pattern
grok_few pattern =
    let nothing : GrokRead = record { expansion = []; places = [] } in
    let most = length pattern + 1 in
    let read = read_within most nothing pattern in
    read_few (length pattern) read (shifted most (length nothing.places + most) read (omega arith) (within_few most nothing pattern))
