-- GROK: what a pattern is read as, and what its named places take of a text.
use Rattle.std.specs.Prelude.{ℕ, zero, suc, ◌+◌, ◌==◌, ◌&&◌, ◌||◌, not, Bool, true, false, List, [], ◌∷◌, ◌++◌, fold, length, map, Option, Some, None, option_map, option_and_then, codes, decimal, slice_range, if◌then◌else◌}
use Rattle.std.specs.List.{filter_map, list_all, list_any}
use Rattle.std.specs.Str.{bytes_eq}
use Rattle.regex.specs.Names.{span_at}
use Rattle.regex.specs.Patterns.{Match}
use Rattle.function_rules.specs.Found.{leftmost}
use Rattle.esql_types.specs.declared.names.Column.{Column}
use Rattle.esql_types.specs.declared.value.Kind.{Kind}
use Rattle.esql_types.specs.declared.value.Kind.TheVariants.{Integer, Long, Boolean, Keyword, Null}
pub use Rattle.dissect_grok.specs.declared.place.Place.{Place}
use Rattle.dissect_grok.specs.Groups.{index_of, names_in, span_in}
use Rattle.dissect_grok.specs.Library.{unnamed_group, written_out}
use Rattle.dissect_grok.specs.Texts.{cut_at}

-- What a pattern is read as: the regular expression that it is written out as, and its named places in order.
pub record GrokRead : Type 0 where
  pub expansion : List ℕ
  pub places : List Place

-- A reference `%{SYNTAX}`, `%{SYNTAX:name}` or `%{SYNTAX:name:type}`: a name of the library, and a named place if there is one.
pub record Reference : Type 0 where
  pub syntax : List ℕ
  pub place : Option Place

-- the kind that a type stands for
abbrev pub kind_of : List ℕ → Option Kind
kind_of text =
    if bytes_eq text (codes "int") then Some Integer
    else (if bytes_eq text (codes "long") then Some Long else (if bytes_eq text (codes "boolean") then Some Boolean else None))

-- a place of a name, which is not empty
abbrev pub place_with : List ℕ → Kind → Option Place
place_with name kind = if length name == 0 then None else Some (record { name = name; kind = kind })

-- a name alone, whose place is a keyword, or a name and a type
abbrev pub place_parts : List ℕ → Option (List ℕ × List ℕ) → Option Place
place_parts text None = place_with text Keyword
place_parts text (Some (name, type)) = option_and_then (place_with name) (kind_of type)

-- a name, and behind the first colon a type
abbrev pub place_of : List ℕ → Option Place
place_of text = place_parts text (cut_at (codes ":") text)

-- a reference with a place
abbrev pub placed : List ℕ → Place → Reference
placed syntax place = record { syntax = syntax; place = Some place }

-- a name of the library, or such a name and a place behind the first colon
abbrev pub reference_parts : List ℕ → Option (List ℕ × List ℕ) → Option Reference
reference_parts text None = Some (record { syntax = text; place = None })
reference_parts text (Some (syntax, rest)) = option_map (placed syntax) (place_of rest)

-- what stands between `%{` and the first `}` behind it
abbrev pub reference_of : List ℕ → Option Reference
reference_of text = reference_parts text (cut_at (codes ":") text)

-- the name of the group of a named place, by its number from 0
abbrev pub group_name : ℕ → List ℕ
group_name number = codes "f" ++ decimal number

-- the group of an expression, with the name of the place of a number
abbrev pub named_group : ℕ → List ℕ → List ℕ
named_group number expression = codes "(?P<" ++ (group_name number ++ (codes ">" ++ (expression ++ codes ")")))

-- what is read so far, and a literal
abbrev pub with_literal : GrokRead → List ℕ → GrokRead
with_literal read literal = record { expansion = read.expansion ++ literal; places = read.places }

-- what is read so far, and the group of an expression, which is the next place if it is named
abbrev pub with_group : GrokRead → Option Place → List ℕ → GrokRead
with_group read None expression = record { expansion = read.expansion ++ unnamed_group expression; places = read.places }
with_group read (Some place) expression =
    record { expansion = read.expansion ++ named_group (length read.places) expression; places = read.places ++ place ∷ [] }

-- what is read so far, and the group of a reference to a name of the library
abbrev pub with_reference : GrokRead → Option Reference → Option GrokRead
with_reference read None = None
with_reference read (Some reference) = option_map (with_group read reference.place) (written_out reference.syntax)

-- a reference and what stands behind it, as `more` reads that
abbrev pub read_reference : (GrokRead → List ℕ → Option GrokRead) → GrokRead → Option (List ℕ × List ℕ) → Option GrokRead
read_reference more read None = None
read_reference more read (Some (text, rest)) = option_and_then (λ next. more next rest) (with_reference read (reference_of text))

-- a literal, and what stands behind the first `%{`, if there is one
abbrev pub read_behind : (GrokRead → List ℕ → Option GrokRead) → GrokRead → List ℕ → Option (List ℕ × List ℕ) → Option GrokRead
read_behind more read text None = Some (with_literal read text)
read_behind more read text (Some (literal, behind)) = read_reference more (with_literal read literal) (cut_at (codes "}") behind)

-- what is read so far, and the rest of a pattern, which has fewer than so many references
abbrev pub read_within : ℕ → GrokRead → List ℕ → Option GrokRead
read_within zero read text = None
read_within (suc count) read text = read_behind (λ next rest. read_within count next rest) read text (cut_at (codes "%{") text)

-- the same kind; no place has the kind of NULL
abbrev pub same_kind : Kind → Kind → Bool
same_kind Integer Integer = true
same_kind Long Long = true
same_kind Boolean Boolean = true
same_kind Keyword Keyword = true
same_kind Null Null = true
same_kind kind other = false

-- columns, with one for a place where none has its name
abbrev pub with_column : List Column → Place → List Column
with_column columns place =
    if list_any (λ (column : Column). bytes_eq place.name column.name) columns
    then columns
    else columns ++ record { name = place.name; kind = place.kind } ∷ []

-- a column for each name, by its first place, with the kind of that place
abbrev pub columns_of : List Place → List Column
columns_of places = fold with_column [] places

-- the place has another name than the column, or its kind
abbrev pub fits : Place → Column → Bool
fits place column = not (bytes_eq place.name column.name) || same_kind place.kind column.kind

-- no name has two kinds
abbrev pub have_one_kind : List Place → Bool
have_one_kind places = list_all (λ place. list_all (fits place) (columns_of places)) places

-- some place is named, and no name has two kinds
abbrev pub is_good : GrokRead → Bool
is_good read = not (length read.places == 0) && have_one_kind read.places

abbrev pub if_good : GrokRead → Option GrokRead
if_good read = if is_good read then Some read else None

-- what is read so far, and the rest of a pattern, which has no more references than bytes
abbrev pub read_from : GrokRead → List ℕ → Option GrokRead
read_from read text = read_within (length text + 1) read text

-- what is read before a pattern
abbrev pub nothing_read : GrokRead
nothing_read = record { expansion = []; places = [] }

-- what a pattern is read as; a bad one is read as nothing
abbrev pub grok_of : List ℕ → Option GrokRead
grok_of pattern = option_and_then if_good (read_from nothing_read pattern)

-- the columns of a pattern
abbrev pub grok_columns : GrokRead → List Column
grok_columns read = columns_of read.places

-- the numbers of the places that have a name, where the first of the places has a number
abbrev pub numbers_from : List ℕ → ℕ → List Place → List ℕ
numbers_from name number [] = []
numbers_from name number (place ∷ places) =
    if bytes_eq name place.name then number ∷ numbers_from name (number + 1) places else numbers_from name (number + 1) places

-- the numbers of the places that have a name
abbrev pub numbers_of : List Place → List ℕ → List ℕ
numbers_of places name = numbers_from name 0 places

-- the text of the place of a number in a match of the expansion, where its group took part
abbrev pub place_text : List ℕ → List ℕ → Match → ℕ → Option (List ℕ)
place_text expansion text found number =
    option_map (λ (span : ℕ × ℕ). slice_range text span.0 span.1) (span_at (span_in found) (index_of (group_name number) (names_in expansion)))

-- the texts that the places of a column take in a match, in order
abbrev pub column_texts : GrokRead → List ℕ → Match → Column → List (List ℕ)
column_texts read text found column = filter_map (place_text read.expansion text found) (numbers_of read.places column.name)

-- the texts for each column, by the leftmost match of the expansion; none where there is no match
abbrev pub grok_takes : GrokRead → List ℕ → Option (List (List (List ℕ)))
grok_takes read text = option_map (λ found. map (column_texts read text found) (grok_columns read)) (leftmost read.expansion text)
