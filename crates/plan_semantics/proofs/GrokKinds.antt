-- No column of a pattern of GROK has the kind null.
use Rattle.std.proofs.Common.{ℕ, zero, suc, ◌+◌, ◌==◌, Bool, true, false, List, [], ◌∷◌, ◌++◌, length, All, Option, Some, None, option_map, if◌then◌else◌}
use Rattle.std.specs.Prelude.{IfSome, codes, fold, option_and_then}
use Rattle.std.specs.List.{list_any}
use Rattle.std.specs.Str.{bytes_eq}
use Rattle.std.proofs.lemmas.List.Elements.{All-nil, All-cons, All-head, All-tail, All-append}
use Rattle.esql_types.specs.declared.names.Column.{Column}
use Rattle.esql_types.specs.declared.value.Kind.{Kind}
use Rattle.esql_types.specs.declared.value.Kind.TheVariants.{Integer, Long, Boolean, Keyword, Null}
use Rattle.dissect_grok.specs.Texts.{cut_at}
use Rattle.dissect_grok.specs.Library.{written_out}
use Rattle.dissect_grok.specs.Groks.{GrokRead, Reference, kind_of, place_with, placed, reference_parts, reference_of, with_literal, with_group, with_reference, read_reference, read_behind, read_within, with_column, is_good, if_good, grok_of}
use Rattle.dissect_grok.specs.declared.place.Place.{Place}
use Rattle.plan_semantics.specs.Taken.{columns_of_grok}

-- options ------------------------------------------------------------------------------------------------------------------------------

some_then : {A B : Type 0} (P : A → Type 0) (Q : B → Type 0) (f : A → Option B) → ((a : A) → P a → IfSome (f a) Q) → (found : Option A) → IfSome found P
    → IfSome (option_and_then f found) Q
some_then P Q f next None own = tt
some_then P Q f next (Some a) own = next a own

some_mapped : {A B : Type 0} (P : A → Type 0) (Q : B → Type 0) (f : A → B) → ((a : A) → P a → Q (f a)) → (found : Option A) → IfSome found P → IfSome (option_map f found) Q
some_mapped P Q f next None own = tt
some_mapped P Q f next (Some a) own = next a own

some_made : {A B : Type 0} (Q : B → Type 0) (f : A → B) → ((a : A) → Q (f a)) → (found : Option A) → IfSome (option_map f found) Q
some_made Q f next None = tt
some_made Q f next (Some a) = next a

-- places -------------------------------------------------------------------------------------------------------------------------------

-- the kind is not that of null
abbrev pub HasValues : Kind → Type 0
HasValues Integer = Unit {0}
HasValues Long = Unit {0}
HasValues Boolean = Unit {0}
HasValues Keyword = Unit {0}
HasValues Null = ⊥

abbrev PlaceHas : Place → Type 0
PlaceHas place = HasValues place.kind

abbrev ReferenceHas : Reference → Type 0
ReferenceHas reference = IfSome reference.place PlaceHas

abbrev ReadHas : GrokRead → Type 0
ReadHas read = All PlaceHas read.places

named_has : (name : List ℕ) (kind : Kind) → HasValues kind → IfSome (place_with name kind) PlaceHas
named_has name kind has = elim (length name == 0) as (λ b. IfSome (if b then None else Some (record { name = name; kind = kind })) PlaceHas) [ true ↦ tt | false ↦ has ]

kinds_have : (text : List ℕ) → IfSome (kind_of text) HasValues
kinds_have text = by_cases (bytes_eq text (codes "int")) (bytes_eq text (codes "long")) (bytes_eq text (codes "boolean"))
  where
    by_cases : (b c d : Bool) → IfSome (if b then Some Integer else (if c then Some Long else (if d then Some Boolean else None))) HasValues
    by_cases true c d = tt
    by_cases false true d = tt
    by_cases false false true = tt
    by_cases false false false = tt

-- a name alone, or a name and a type
abbrev place_by : List ℕ → Option (List ℕ × List ℕ) → Option Place
place_by text None = place_with text Keyword
place_by text (Some (name, kind)) = option_and_then (place_with name) (kind_of kind)

place_has : (text : List ℕ) (parts : Option (List ℕ × List ℕ)) → IfSome (place_by text parts) PlaceHas
place_has text None = named_has text Keyword tt
place_has text (Some (name, kind)) = some_then HasValues PlaceHas (place_with name) (named_has name) (kind_of kind) (kinds_have kind)

reference_has : (text : List ℕ) (parts : Option (List ℕ × List ℕ)) → IfSome (reference_parts text parts) ReferenceHas
reference_has text None = tt
reference_has text (Some (syntax, rest)) =
    some_mapped PlaceHas ReferenceHas (placed syntax) (λ place own. own) (place_by rest (cut_at (codes ":") rest)) (place_has rest (cut_at (codes ":") rest))

-- readings -----------------------------------------------------------------------------------------------------------------------------

group_has : (read : GrokRead) → ReadHas read → (place : Option Place) → IfSome place PlaceHas → (expression : List ℕ) → ReadHas (with_group read place expression)
group_has read has None own expression = has
group_has read has (Some place) own expression = All-append PlaceHas read.places (place ∷ []) has (All-cons PlaceHas place [] own (All-nil PlaceHas))

next_has : (read : GrokRead) → ReadHas read → (reference : Option Reference) → IfSome reference ReferenceHas → IfSome (with_reference read reference) ReadHas
next_has read has None own = tt
next_has read has (Some reference) own = some_made ReadHas (with_group read reference.place) (group_has read has reference.place own) (written_out reference.syntax)

module _ (more : GrokRead → List ℕ → Option GrokRead) (rest_has : (read : GrokRead) (rest : List ℕ) → ReadHas read → IfSome (more read rest) ReadHas) where
  behind_reference : (read : GrokRead) → ReadHas read → (parts : Option (List ℕ × List ℕ)) → IfSome (read_reference more read parts) ReadHas
  behind_reference read has None = tt
  behind_reference read has (Some (text, rest)) =
      some_then ReadHas ReadHas (λ (next : GrokRead). more next rest) (λ next own. rest_has next rest own) (with_reference read (reference_of text))
      (next_has read has (reference_of text) (reference_has text (cut_at (codes ":") text)))

  behind_literal : (read : GrokRead) → ReadHas read → (text : List ℕ) (parts : Option (List ℕ × List ℕ)) → IfSome (read_behind more read text parts) ReadHas
  behind_literal read has text None = has
  behind_literal read has text (Some (literal, behind)) = behind_reference (with_literal read literal) has (cut_at (codes "}") behind)

within_has : (count : ℕ) (read : GrokRead) (text : List ℕ) → ReadHas read → IfSome (read_within count read text) ReadHas
within_has zero read text has = tt
within_has (suc count) read text has =
    behind_literal (λ next rest. read_within count next rest) (λ next rest own. within_has count next rest own) read has text (cut_at (codes "%{") text)

good_has : (read : GrokRead) → ReadHas read → IfSome (if_good read) ReadHas
good_has read has = elim (is_good read) as (λ b. IfSome (if b then Some read else None) ReadHas) [ true ↦ has | false ↦ tt ]

read_has : (pattern : List ℕ) → IfSome (grok_of pattern) ReadHas
read_has pattern =
    let none : GrokRead = record { expansion = []; places = [] } in
    some_then ReadHas ReadHas if_good good_has (read_within (length pattern + 1) none pattern) (within_has (length pattern + 1) none pattern (All-nil PlaceHas))

-- columns ------------------------------------------------------------------------------------------------------------------------------

abbrev pub ColumnHas : Column → Type 0
ColumnHas column = HasValues column.kind

column_has : (columns : List Column) (place : Place) → All ColumnHas columns → PlaceHas place → All ColumnHas (with_column columns place)
column_has columns place all own =
    let column : Column = record { name = place.name; kind = place.kind } in
    elim (list_any (λ (column : Column). bytes_eq place.name column.name) columns) as (λ b. All ColumnHas (if b then columns else columns ++ column ∷ []))
    [ true ↦ all | false ↦ All-append ColumnHas columns (column ∷ []) all (All-cons ColumnHas column [] own (All-nil ColumnHas)) ]

columns_have : (columns : List Column) (places : List Place) → All ColumnHas columns → All PlaceHas places → All ColumnHas (fold with_column columns places)
columns_have columns [] all has = all
columns_have columns (place ∷ places) all has =
    columns_have (with_column columns place) places (column_has columns place all (All-head PlaceHas place places has)) (All-tail PlaceHas place places has)

columns_of_read : (read : Option GrokRead) → IfSome read ReadHas → All ColumnHas (columns_of_grok read)
columns_of_read None has = All-nil ColumnHas
columns_of_read (Some read) has = columns_have [] read.places (All-nil ColumnHas) has

pub pattern_columns : (pattern : List ℕ) → All ColumnHas (columns_of_grok (grok_of pattern))
pattern_columns pattern = columns_of_read (grok_of pattern) (read_has pattern)
