-- What is known of the kinds of columns, one column and one table at a time, and the fields that it gives.
use Rattle.std.proofs.Common.{◌≡◌, ℕ, zero, suc, ◌+◌, ◌<◌, Bool, true, false, ◌&&◌, cond, List, [], ◌∷◌, ◌++◌, length, take, drop, get_or, All, Option, Some, None, Result, Ok, Err, refl, sym, ap, subst, ◌∙◌, add-one, append_assoc, arith, rules}
use Rattle.std.specs.Cmp.Lexicographic.{slice_cmp}
use Rattle.std.specs.List.{list_all}
use Rattle.std.specs.Ordering.{is_lt, is_eq, nat_cmp}
use Rattle.std.specs.Str.{bytes_eq}
use Rattle.std.specs.declared.cmp.Ordering.{Ordering}
use Rattle.std.specs.declared.cmp.Ordering.TheVariants.{Less, Equal, Greater}
use Rattle.std.proofs.Math.Seq.{take-suc}
use Rattle.std.proofs.lemmas.List.{append-nil, get_or-map, get_or-take, length-map, length-take, map-append, take-map, take-append-drop}
use Rattle.std.proofs.lemmas.List.Elements.{All-head, All-tail}
use Rattle.std.proofs.lemmas.List.Folds.{list_all-append}
use Rattle.std.proofs.lemmas.Map.Text.{is_eq-slice_cmp}
use Rattle.esql_types.specs.declared.names.Column.{Column}
use Rattle.esql_types.specs.declared.value.Kind.{Kind}
use Rattle.plan_semantics.specs.WellFormed.{kind_named}
use Rattle.dissect_grok.specs.Groks.{same_kind}
use Rattle.ndjson_load.specs.Shapes.{NamesRise}
use Rattle.ndjson_load.specs.declared.cause.MappingCause.{MappingCause}
use Rattle.ndjson_load.specs.declared.cause.MappingCause.TheVariants.{KindConflict}
use Rattle.ndjson_load.specs.declared.column.MappedColumn.{MappedColumn}
use Rattle.table_files.specs.declared.fields.FieldKind.{FieldKind}
use Rattle.table_files.specs.declared.fields.FieldKind.TheVariants.{One, Several}
use Rattle.table_files.specs.declared.tables.FoundTable.{FoundTable}
use Rattle.table_files.specs.Catalogs.{columns_of}
use Rattle.table_files.specs.Fields.{Known, folded, with_kind, with_kind_if, given_by, with_columns, AreOnce, FoldsKinds, field_known, field_by, fields_by}
use Rattle.table_files.specs.Policies.{columns_named, onto, kinds_given, field_of_kinds, field_of, with_field, fields_of}
use Rattle.table_files.proofs.Numbered.{same_name}

-- one item more than those before a place
take_more : {A : Type 0} (items : List A) (place : ℕ) (item : A) → place < length items → item ≡ get_or items place item → take (place + 1) items ≡ take place items ++ item ∷ []
take_more items place item within is = ap (λ n. take n items) (add-one place) ∙ take-suc items place item within ∙ ap (λ one. take place items ++ one ∷ []) (sym is)

-- ---- kinds together

folded_more : (kinds : List Kind) (kind : Kind) → folded (kinds ++ kind ∷ []) ≡ Some (with_kind (folded kinds) kind)
folded_more [] kind = refl
folded_more (first ∷ kinds) kind =
    ap (λ (b : Bool). Some (cond b (One first) Several)) (list_all-append (same_kind first) kinds (kind ∷ []))
    ∙ by_all (list_all (same_kind first) kinds)
  where
    by_own : (own : Bool) → Some (cond (own && true) (One first) Several) ≡ Some (cond own (One first) Several)
    by_own true = refl
    by_own false = refl

    by_all : (all : Bool) → Some (cond (all && (same_kind first kind && true)) (One first) Several) ≡ Some (with_kind (Some (cond all (One first) Several)) kind)
    by_all true = by_own (same_kind first kind)
    by_all false = refl

folded_onto : (kinds : List Kind) (kind : Option Kind) → folded (kinds ++ onto kind []) ≡ with_kind_if kind (folded kinds)
folded_onto kinds None = ap folded (append-nil kinds)
folded_onto kinds (Some kind) = folded_more kinds kind

onto_more : (kind : Option Kind) (kinds more : List Kind) → onto kind kinds ++ more ≡ onto kind (kinds ++ more)
onto_more None kinds more = refl
onto_more (Some kind) kinds more = refl

given_more : (tables : List FoundTable) (names : List (List ℕ)) (name column : List ℕ)
    → kinds_given tables (names ++ name ∷ []) column ≡ kinds_given tables names column ++ onto (kind_named (columns_named tables name) column) []
given_more tables [] name column = refl
given_more tables (first ∷ names) name column =
    ap (onto (kind_named (columns_named tables first) column)) (given_more tables names name column)
    ∙ sym (onto_more (kind_named (columns_named tables first) column) (kinds_given tables names column) (onto (kind_named (columns_named tables name) column) []))

-- one table more
pub table_given : (tables : List FoundTable) (names : List (List ℕ)) (place : ℕ) (name : List ℕ) (columns : List Column) (known later : Known) → place < length names → name ≡ get_or names place name
    → columns ≡ columns_named tables name → FoldsKinds tables (take place names) known → ((column : List ℕ) → later column ≡ with_columns columns known column)
    → FoldsKinds tables (take (place + 1) names) later
table_given tables names place name columns known later within is named folds given column =
    given column ∙ (λ i. with_kind_if (kind_named (named i) column) (folds column i))
    ∙ sym (ap (λ these. folded (kinds_given tables these column)) (take_more names place name within is)
    ∙ ap folded (given_more tables (take place names) name column) ∙ folded_onto (kinds_given tables (take place names) column) (kind_named (columns_named tables name) column))

-- ---- the columns of a table

abbrev or_kind : Option Kind → Option Kind → Option Kind
or_kind (Some kind) other = Some kind
or_kind None other = other

abbrev own_kind : Column → Bool → Option Kind
own_kind column own = cond own (Some column.kind) None

named_more : (columns : List Column) (column : Column) (name : List ℕ)
    → kind_named (columns ++ column ∷ []) name ≡ or_kind (kind_named columns name) (own_kind column (bytes_eq column.name name))
named_more [] column name = refl
named_more (first ∷ columns) column name = by_first (bytes_eq first.name name) (named_more columns column name)
  where
    by_first : (own : Bool) → kind_named (columns ++ column ∷ []) name ≡ or_kind (kind_named columns name) (own_kind column (bytes_eq column.name name))
        → cond own (Some first.kind) (kind_named (columns ++ column ∷ []) name) ≡ or_kind (cond own (Some first.kind) (kind_named columns name)) (own_kind column (bytes_eq column.name name))
    by_first true rest = refl
    by_first false rest = rest

not_named : (columns : List Column) (name : List ℕ) → ((place : ℕ) (d : Column) → place < length columns → bytes_eq (get_or columns place d).name name ≡ false) → kind_named columns name ≡ None
not_named [] name apart = refl
not_named (column ∷ columns) name apart =
    ap (λ (b : Bool). cond b (Some column.kind) (kind_named columns name)) (apart 0 column (omega arith)) ∙ not_named columns name (λ place d within. apart (suc place) d (omega (arith, within)))

none_before : (columns : List Column) (place : ℕ) (column : Column) → AreOnce columns → place < length columns → column ≡ get_or columns place column → kind_named (take place columns) column.name ≡ None
none_before columns place column once within is =
    not_named (take place columns) column.name (λ before d inside.
    let count : length (take place columns) ≡ place = grind (arith, length-take) in
    let below : before < place = omega (arith, inside, count) in
    ap (λ (one : Column). bytes_eq one.name column.name) (get_or-take place columns before d below)
    ∙ ap (λ (one : Column). bytes_eq (get_or columns before d).name one.name) (is ∙ same_at columns place column d within)
    ∙ once before place d below within)
  where
    same_at : (columns : List Column) (place : ℕ) (column d : Column) → place < length columns → get_or columns place column ≡ get_or columns place d
    same_at [] place column d within = absurd (omega (arith, within))
    same_at (first ∷ columns) zero column d within = refl
    same_at (first ∷ columns) (suc place) column d within = same_at columns place column d (omega (arith, within))

-- one column more
column_more : (columns : List Column) (column : Column) (known : Option FieldKind) (name : List ℕ) → kind_named columns column.name ≡ None
    → with_kind_if (own_kind column (bytes_eq column.name name)) (with_kind_if (kind_named columns name) known) ≡ with_kind_if (kind_named (columns ++ column ∷ []) name) known
column_more columns column known name none = by_name (bytes_eq column.name name) refl ∙ ap (λ kind. with_kind_if kind known) (sym (named_more columns column name))
  where
    by_kind : (kind : Option Kind) → with_kind_if kind known ≡ with_kind_if (or_kind kind None) known
    by_kind None = refl
    by_kind (Some kind) = refl

    by_name : (own : Bool) → bytes_eq column.name name ≡ own
        → with_kind_if (own_kind column own) (with_kind_if (kind_named columns name) known) ≡ with_kind_if (or_kind (kind_named columns name) (own_kind column own)) known
    by_name true own =
        let gone : kind_named columns name ≡ None = ap (kind_named columns) (sym (same_name column.name name own)) ∙ none in
        ap (λ (kind : Option Kind). with_kind_if (Some column.kind) (with_kind_if kind known)) gone
        ∙ sym (ap (λ (kind : Option Kind). with_kind_if (or_kind kind (Some column.kind)) known) gone)
    by_name false own = by_kind (kind_named columns name)

pub column_given : (columns : List MappedColumn) (place : ℕ) (mapped : MappedColumn) (old known later : Known) → place < length columns → mapped ≡ get_or columns place mapped → AreOnce (columns_of columns)
    → ((name : List ℕ) → known name ≡ with_columns (columns_of (take place columns)) old name) → ((name : List ℕ) → later name ≡ given_by mapped.column known name)
    → (name : List ℕ) → later name ≡ with_columns (columns_of (take (place + 1) columns)) old name
column_given columns place mapped old known later within is once before given name =
    let all : length (columns_of columns) ≡ length columns = length-map columns (λ (one : MappedColumn). one.column) in
    let own : mapped.column ≡ get_or (columns_of columns) place mapped.column =
    ap (λ (one : MappedColumn). one.column) is ∙ sym (get_or-map (λ (one : MappedColumn). one.column) columns place mapped mapped.column within) in
    let none = none_before (columns_of columns) place mapped.column once (omega (arith, within, all)) own in
    let front : columns_of (take place columns) ≡ take place (columns_of columns) = sym (take-map (λ (one : MappedColumn). one.column) place columns) in
    given name ∙ ap (with_kind_if (own_kind mapped.column (bytes_eq mapped.column.name name))) (before name)
    ∙ column_more (columns_of (take place columns)) mapped.column (old name) name (ap (λ these. kind_named these mapped.column.name) front ∙ none)
    ∙ ap (λ these. with_kind_if (kind_named these name) (old name)) (sym (ap columns_of (take_more columns place mapped within is) ∙ map-append (λ (one : MappedColumn). one.column) (take place columns) (mapped ∷ [])))

-- ---- the columns of a table have names that differ

less_apart : (o : Ordering) → is_lt o ≡ true → is_eq o ≡ false
less_apart Less is = refl
less_apart Equal is = absurd cc
less_apart Greater is = absurd cc

less_differ : (one other : List ℕ) → is_lt (slice_cmp nat_cmp one other) ≡ true → bytes_eq one other ≡ false
less_differ one other less = sym (is_eq-slice_cmp one other) ∙ less_apart (slice_cmp nat_cmp one other) less

rise_once : (columns : List MappedColumn) → NamesRise columns → AreOnce (columns_of columns)
rise_once columns rise i j d before within =
    let inside : j < length columns = subst (λ (n : ℕ). j < n) (length-map columns (λ (one : MappedColumn). one.column)) within in
    let e : MappedColumn = record { column = d; ignore_malformed = false; null_value = None } in
    let at : get_or (columns_of columns) i d ≡ (get_or columns i e).column = get_or-map (λ (one : MappedColumn). one.column) columns i e d (omega arith) in
    let later : get_or (columns_of columns) j d ≡ (get_or columns j e).column = get_or-map (λ (one : MappedColumn). one.column) columns j e d inside in
    (λ k. bytes_eq (at k).name (later k).name) ∙ less_differ (get_or columns i e).column.name (get_or columns j e).column.name (rise i j e before inside)

abbrev Rises : FoundTable → Type 0
Rises table = NamesRise table.columns

pub named_once : (tables : List FoundTable) (name : List ℕ) → All (λ (table : FoundTable). NamesRise table.columns) tables → AreOnce (columns_named tables name)
named_once [] name rise = λ i j d before within. absurd (omega (arith, within))
named_once (table ∷ tables) name rise = by_name (bytes_eq table.name name) (rise_once table.columns (All-head Rises table tables rise)) (named_once tables name (All-tail Rises table tables rise))
  where
    by_name : (own : Bool) → AreOnce (columns_of table.columns) → AreOnce (columns_named tables name) → AreOnce (cond own (columns_of table.columns) (columns_named tables name))
    by_name true first rest = first
    by_name false first rest = rest

-- ---- the fields

known_field : (kinds : List Kind) (name : List ℕ) → field_known (folded kinds) name ≡ field_of_kinds name kinds
known_field [] name = refl
known_field (kind ∷ kinds) name = by_all (list_all (same_kind kind) kinds)
  where
    own : Column
    own = record { name = name; kind = kind }

    by_all : (all : Bool) → field_known (Some (cond all (One kind) Several)) name ≡ cond all (Ok own) (Err (KindConflict name))
    by_all true = refl
    by_all false = refl

-- a field is what is known of it over the tables
pub field_given : (tables : List FoundTable) (names : List (List ℕ)) (known : Known) (name : List ℕ) → FoldsKinds tables names known → field_by known name ≡ field_of tables names name
field_given tables names known name folds = ap (λ kind. field_known kind name) (folds name) ∙ known_field (kinds_given tables names name) name

pub fields_given : (tables : List FoundTable) (names : List (List ℕ)) (known : Known) (columns : List (List ℕ)) → FoldsKinds tables names known → fields_by known columns ≡ fields_of tables names columns
fields_given tables names known [] folds = refl
fields_given tables names known (column ∷ columns) folds = let rest = fields_given tables names known columns folds in (λ i. with_field (field_given tables names known column folds i) (rest i))

-- the fields up to a name
fields_more : (known : Known) (front : List (List ℕ)) (fields : List Column) (name : List ℕ) (field : Column) → fields_by known front ≡ Ok fields → field_by known name ≡ Ok field
    → fields_by known (front ++ name ∷ []) ≡ Ok (fields ++ field ∷ [])
fields_more known [] fields name field before is =
    let none : [] ≡ fields = search rules in
    ap (λ first. with_field first (Ok [])) is ∙ ap (λ these. Ok (these ++ field ∷ [])) none
fields_more known (first ∷ front) fields name field before is = by_field (field_by known first) (fields_by known front) before (λ later these. fields_more known front later name field these is)
  where
    by_field : (one : Result Column MappingCause) (rest : Result (List Column) MappingCause) → with_field one rest ≡ Ok fields
        → ((later : List Column) → rest ≡ Ok later → fields_by known (front ++ name ∷ []) ≡ Ok (later ++ field ∷ []))
        → with_field one (fields_by known (front ++ name ∷ [])) ≡ Ok (fields ++ field ∷ [])
    by_field (Err cause) rest made next = absurd cc
    by_field (Ok own) (Err cause) made next = absurd cc
    by_field (Ok own) (Ok later) made next =
        let same : own ∷ later ≡ fields = search rules in
        ap (with_field (Ok own)) (next later refl) ∙ ap (λ these. Ok (these ++ field ∷ [])) same

fields_fail : (known : Known) (front : List (List ℕ)) (fields : List Column) (name : List ℕ) (back : List (List ℕ)) (cause : MappingCause) → fields_by known front ≡ Ok fields → field_by known name ≡ Err cause
    → fields_by known (front ++ name ∷ back) ≡ Err cause
fields_fail known [] fields name back cause before is = ap (λ first. with_field first (fields_by known back)) is
fields_fail known (first ∷ front) fields name back cause before is = by_field (field_by known first) (fields_by known front) before (λ later these. fields_fail known front later name back cause these is)
  where
    by_field : (one : Result Column MappingCause) (rest : Result (List Column) MappingCause) → with_field one rest ≡ Ok fields
        → ((later : List Column) → rest ≡ Ok later → fields_by known (front ++ name ∷ back) ≡ Err cause)
        → with_field one (fields_by known (front ++ name ∷ back)) ≡ Err cause
    by_field (Err cause) rest made next = absurd cc
    by_field (Ok own) (Err cause) made next = absurd cc
    by_field (Ok own) (Ok later) made next = ap (with_field (Ok own)) (next later refl)

pub field_next : (known : Known) (names : List (List ℕ)) (place : ℕ) (name asked : List ℕ) (fields : List Column) (field : Column) → place < length names → name ≡ get_or names place name → asked ≡ name
    → fields_by known (take place names) ≡ Ok fields → field_by known asked ≡ Ok field → fields_by known (take (place + 1) names) ≡ Ok (fields ++ field ∷ [])
field_next known names place name asked fields field within is same before own =
    ap (fields_by known) (take_more names place name within is) ∙ fields_more known (take place names) fields name field before (ap (field_by known) (sym same) ∙ own)

pub field_none : (known : Known) (names : List (List ℕ)) (place : ℕ) (name asked : List ℕ) (fields : List Column) (cause : MappingCause) → place < length names → name ≡ get_or names place name → asked ≡ name
    → fields_by known (take place names) ≡ Ok fields → field_by known asked ≡ Err cause → fields_by known names ≡ Err cause
field_none known names place name asked fields cause within is same before own =
    let whole : names ≡ take place names ++ name ∷ drop (place + 1) names =
    sym (take-append-drop (place + 1) names) ∙ ap (λ these. these ++ drop (place + 1) names) (take_more names place name within is) ∙ append_assoc (take place names) (name ∷ []) (drop (place + 1) names) in
    ap (fields_by known) whole ∙ fields_fail known (take place names) fields name (drop (place + 1) names) cause before (ap (field_by known) (sym same) ∙ own)
