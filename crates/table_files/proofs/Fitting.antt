-- A policy that is shaped over tables fits them.
use Rattle.std.proofs.Common.{◌≡◌, ℕ, zero, suc, ◌+◌, Bool, true, false, ◌&&◌, cond, List, [], ◌∷◌, ◌++◌, length, map, get_or, All, Option, Some, None, option_map, Result, Ok, Err, refl, sym, ap, subst, ◌∙◌, arith, rules}
use Rattle.std.specs.List.{list_all, slice_get}
use Rattle.std.specs.Option.{IfSome}
use Rattle.std.proofs.lemmas.List.{length-map, map-append}
use Rattle.std.proofs.lemmas.List.Elements.{All-nil, All-cons, All-head, All-tail, All-map, All-weaker}
use Rattle.std.proofs.lemmas.Option.{slice_get-map, slice_get-get_or, slice_get_within}
use Rattle.esql_types.specs.declared.names.Column.{Column}
use Rattle.esql_types.specs.declared.value.Kind.{Kind}
use Rattle.esql_types.specs.declared.value.Kind.TheVariants.{Integer, Long, Boolean, Keyword, Null}
use Rattle.esql_plan.specs.declared.catalog.PolicyShape.{PolicyShape}
use Rattle.esql_plan.specs.declared.catalog.TableShape.{TableShape}
use Rattle.plan_semantics.specs.WellFormed.{kind_named, GivesKind, IsPolicyTable}
use Rattle.dissect_grok.specs.Groks.{same_kind}
use Rattle.ndjson_load.specs.declared.cause.MappingCause.{MappingCause}
use Rattle.ndjson_load.specs.declared.cause.MappingCause.TheVariants.{KindConflict}
use Rattle.policy_json.specs.declared.policy.PolicyText.{PolicyText}
use Rattle.table_files.specs.declared.tables.FoundTable.{FoundTable}
use Rattle.table_files.specs.Catalogs.{shape_of, catalog_of}
use Rattle.table_files.specs.Found.{has_table}
use Rattle.table_files.specs.Policies.{each_once, entries_of_text, number_of, columns_named, onto, kinds_given, field_of_kinds, field_of, with_field, fields_of, shape_with, shape_of_policy}
use Rattle.table_files.specs.Reading.{FitsTables}
use Rattle.table_files.proofs.Numbered.{HasNamed, number_stands}

-- ---- kinds

kinds_same : (one other : Kind) → same_kind one other ≡ true → other ≡ one
kinds_same Integer Integer is = refl
kinds_same Integer Long is = absurd cc
kinds_same Integer Boolean is = absurd cc
kinds_same Integer Keyword is = absurd cc
kinds_same Integer Null is = absurd cc
kinds_same Long Integer is = absurd cc
kinds_same Long Long is = refl
kinds_same Long Boolean is = absurd cc
kinds_same Long Keyword is = absurd cc
kinds_same Long Null is = absurd cc
kinds_same Boolean Integer is = absurd cc
kinds_same Boolean Long is = absurd cc
kinds_same Boolean Boolean is = refl
kinds_same Boolean Keyword is = absurd cc
kinds_same Boolean Null is = absurd cc
kinds_same Keyword Integer is = absurd cc
kinds_same Keyword Long is = absurd cc
kinds_same Keyword Boolean is = absurd cc
kinds_same Keyword Keyword is = refl
kinds_same Keyword Null is = absurd cc
kinds_same Null Integer is = absurd cc
kinds_same Null Long is = absurd cc
kinds_same Null Boolean is = absurd cc
kinds_same Null Keyword is = absurd cc
kinds_same Null Null is = refl

-- kinds that are all one
all_one : (kind : Kind) (kinds : List Kind) → list_all (same_kind kind) kinds ≡ true → All (λ other. other ≡ kind) kinds
all_one kind [] is = All-nil (λ (other : Kind). other ≡ kind)
all_one kind (other ∷ kinds) is = by_first (same_kind kind other) refl (all_one kind kinds)
  where
    by_first : (same : Bool) → same_kind kind other ≡ same → (list_all (same_kind kind) kinds ≡ true → All (λ other. other ≡ kind) kinds) → All (λ other. other ≡ kind) (other ∷ kinds)
    by_first true own next =
        All-cons (λ other. other ≡ kind) other kinds (kinds_same kind other own) (next (sym (ap (λ (b : Bool). b && list_all (same_kind kind) kinds) own) ∙ is))
    by_first false own next = absurd (let gone : false ≡ true = sym (ap (λ (b : Bool). b && list_all (same_kind kind) kinds) own) ∙ is in cc)

-- a field has its kind in all tables that have it
abbrev kept : Result Column MappingCause → Result Column MappingCause
kept made = made

record IsField (column : List ℕ) (kinds : List Kind) (field : Column) : Type 0 where
  named : field.name ≡ column
  all : All (λ kind. kind ≡ field.kind) kinds

field_is : (column : List ℕ) (kinds : List Kind) (field : Column) → field_of_kinds column kinds ≡ Ok field → IsField column kinds field
field_is column [] field is = absurd cc
field_is column (kind ∷ kinds) field is = by_all (list_all (same_kind kind) kinds) refl
  where
    own : Column
    own = record { name = column; kind = kind }

    by_all : (all : Bool) → list_all (same_kind kind) kinds ≡ all → IsField column (kind ∷ kinds) field
    by_all true all =
        let made : kept (Ok own) ≡ Ok field = sym (ap (λ (b : Bool). cond b (Ok own) (Err (KindConflict column))) all) ∙ is in
        let same : own ≡ field = search rules in
        subst (IsField column (kind ∷ kinds)) same (record { named = refl; all = All-cons (λ other. other ≡ kind) kind kinds refl (all_one kind kinds all) })
    by_all false all = absurd (let made : Err (KindConflict column) ≡ Ok field = sym (ap (λ (b : Bool). cond b (Ok own) (Err (KindConflict column))) all) ∙ is in cc)

-- the table of a name gives the column its kind, if it has it
abbrev Gives : List FoundTable → Column → List ℕ → Type 0
Gives tables field name = IfSome (kind_named (columns_named tables name) field.name) (λ kind. kind ≡ field.kind)

onto_all : (P : Kind → Type 0) (kind : Option Kind) (kinds : List Kind) → All P (onto kind kinds) → IfSome kind P × All P kinds
onto_all P None kinds all = (tt, all)
onto_all P (Some kind) kinds all = (All-head P kind kinds all, All-tail P kind kinds all)

given_all : (P : Kind → Type 0) (tables : List FoundTable) (names : List (List ℕ)) (column : List ℕ) → All P (kinds_given tables names column)
    → All (λ name. IfSome (kind_named (columns_named tables name) column) P) names
given_all P tables [] column all = All-nil (λ name. IfSome (kind_named (columns_named tables name) column) P)
given_all P tables (name ∷ names) column all =
    let both = onto_all P (kind_named (columns_named tables name) column) (kinds_given tables names column) all in
    All-cons (λ name. IfSome (kind_named (columns_named tables name) column) P) name names both.0 (given_all P tables names column both.1)

field_gives : (tables : List FoundTable) (names : List (List ℕ)) (column : List ℕ) (field : Column) → field_of tables names column ≡ Ok field → All (Gives tables field) names
field_gives tables names column field is =
    let one = field_is column (kinds_given tables names column) field is in
    subst (λ own. All (λ name. IfSome (kind_named (columns_named tables name) own) (λ kind. kind ≡ field.kind)) names) (sym one.named)
    (given_all (λ kind. kind ≡ field.kind) tables names column one.all)

-- ---- the fields

record AreFields (tables : List FoundTable) (names columns : List (List ℕ)) (fields : List Column) : Type 0 where
  give : All (λ field. All (Gives tables field) names) fields
  long : length fields ≡ length columns

fields_are : (tables : List FoundTable) (names columns : List (List ℕ)) (fields : List Column) → fields_of tables names columns ≡ Ok fields → AreFields tables names columns fields
fields_are tables names [] fields is =
    let none : [] ≡ fields = search rules in
    subst (AreFields tables names []) none (record { give = All-nil (λ field. All (Gives tables field) names); long = refl })
fields_are tables names (column ∷ columns) fields is =
    by_field (field_of tables names column) (fields_of tables names columns) refl (fields_are tables names columns) is
  where
    by_field : (first : Result Column MappingCause) (rest : Result (List Column) MappingCause) → field_of tables names column ≡ first
        → ((later : List Column) → rest ≡ Ok later → AreFields tables names columns later) → with_field first rest ≡ Ok fields → AreFields tables names (column ∷ columns) fields
    by_field (Err cause) rest own next made = absurd cc
    by_field (Ok field) (Err cause) own next made = absurd cc
    by_field (Ok field) (Ok later) own next made =
        let behind = next later refl in
        let same : field ∷ later ≡ fields = search rules in
        subst (AreFields tables names (column ∷ columns)) same (record {
          give = All-cons (λ field. All (Gives tables field) names) field later (field_gives tables names column field own) behind.give;
          long = ap suc behind.long;
        })

-- ---- the policy

record IsShape (name : List ℕ) (numbers : List ℕ) (matched : Result Column MappingCause) (fields : Result (List Column) MappingCause) (shape : PolicyShape) : Type 0 where
  tables : shape.tables ≡ numbers
  match_is : matched ≡ Ok shape.match_field
  fields_are : fields ≡ Ok shape.fields

shape_is : (name : List ℕ) (numbers : List ℕ) (matched : Result Column MappingCause) (fields : Result (List Column) MappingCause) (shape : PolicyShape)
    → shape_with name numbers matched fields ≡ Ok shape → IsShape name numbers matched fields shape
shape_is name numbers (Err cause) fields shape is = absurd cc
shape_is name numbers (Ok matched) (Err cause) shape is = absurd cc
shape_is name numbers (Ok matched) (Ok fields) shape is =
    let made : PolicyShape = record { name = name; tables = numbers; match_field = matched; fields = fields } in
    let same : made ≡ shape = search rules in
    subst (IsShape name numbers (Ok matched) (Ok fields)) same (record { tables = refl; match_is = refl; fields_are = refl })

policy_is : (tables : List FoundTable) (name : List ℕ) (policy : PolicyText) (shape : PolicyShape) → shape_of_policy tables name policy ≡ Ok shape
    → IsShape name (map (number_of tables) (each_once policy.indices)) (field_of tables (each_once policy.indices) policy.match_field) (fields_of tables (each_once policy.indices) policy.fields) shape
policy_is tables name policy shape is =
    shape_is name (map (number_of tables) (each_once policy.indices)) (field_of tables (each_once policy.indices) policy.match_field) (fields_of tables (each_once policy.indices) policy.fields) shape is

-- a policy has the entries of its text
pub shape_entries : (tables : List FoundTable) (name : List ℕ) (policy : PolicyText) (shape : PolicyShape) → shape_of_policy tables name policy ≡ Ok shape
    → 1 + length shape.tables + length shape.fields ≡ entries_of_text policy
shape_entries tables name policy shape is =
    let one = policy_is tables name policy shape is in
    let many : length shape.tables ≡ length (each_once policy.indices) = ap length one.tables ∙ length-map (each_once policy.indices) (number_of tables) in
    let wide = (fields_are tables (each_once policy.indices) policy.fields shape.fields one.fields_are).long in
    omega (arith, many, wide)

-- ---- the tables

abbrev shapes_at : List FoundTable → ℕ → Option TableShape
shapes_at tables number = slice_get (map shape_of tables) number

shape_at : (tables : List FoundTable) (number : ℕ) (table : FoundTable) → slice_get tables number ≡ Some table → shapes_at tables number ≡ Some (shape_of table)
shape_at tables number table is = slice_get-map shape_of tables number ∙ ap (option_map shape_of) is

-- a table that has the columns of a name stands for the name
stands_for : (tables : List FoundTable) (name : List ℕ) (shape : PolicyShape) (number : ℕ) → HasNamed tables name number → All (λ field. Gives tables field name) (shape.match_field ∷ shape.fields)
    → IsPolicyTable (catalog_of tables []) shape number
stands_for tables name shape number has give = record {
  there = slice_get_within (map shape_of tables) number (shape_of has.table) (shape_at tables number has.table has.stands);
  kinds = subst (λ (one : Option TableShape). IfSome one (λ table. All (GivesKind table) (shape.match_field ∷ shape.fields))) (sym (shape_at tables number has.table has.stands))
      (subst (λ columns. All (λ field. IfSome (kind_named columns field.name) (λ kind. kind ≡ field.kind)) (shape.match_field ∷ shape.fields)) (sym has.columns) give);
}

-- a policy that is shaped over tables fits them
pub shape_fits : (tables : List FoundTable) (name : List ℕ) (policy : PolicyText) (shape : PolicyShape) → shape_of_policy tables name policy ≡ Ok shape
    → All (λ table. has_table tables table ≡ true) (each_once policy.indices) → FitsTables tables shape
shape_fits tables name policy shape is found =
    let names = each_once policy.indices in
    let one = policy_is tables name policy shape is in
    let gives : All (λ field. All (Gives tables field) names) (shape.match_field ∷ shape.fields) =
    All-cons (λ field. All (Gives tables field) names) shape.match_field shape.fields (field_gives tables names policy.match_field shape.match_field one.match_is)
    (fields_are tables names policy.fields shape.fields one.fields_are).give in
    subst (All (IsPolicyTable (catalog_of tables []) shape)) (sym one.tables)
    (All-map (IsPolicyTable (catalog_of tables []) shape) (number_of tables) names
    (λ place other within.
    stands_for tables (get_or names place other) shape (number_of tables (get_or names place other)) (number_stands tables (get_or names place other) (found place other within))
    (λ at field inside. gives at field inside place other within)))

-- ---- more tables

slice_more : {A : Type 0} (items more : List A) (place : ℕ) (item : A) → slice_get items place ≡ Some item → slice_get (items ++ more) place ≡ Some item
slice_more [] more place item is = absurd cc
slice_more (first ∷ items) more zero item is = is
slice_more (first ∷ items) more (suc place) item is = slice_more items more place item is

empty : TableShape
empty = record { name = []; columns = [] }

table_more : (tables more : List FoundTable) (shape : PolicyShape) (number : ℕ) → IsPolicyTable (catalog_of tables []) shape number → IsPolicyTable (catalog_of (tables ++ more) []) shape number
table_more tables more shape number fits = by_table (shapes_at tables number) refl fits.kinds
  where
    by_table : (table : Option TableShape) → shapes_at tables number ≡ table → IfSome table (λ table. All (GivesKind table) (shape.match_field ∷ shape.fields))
        → IsPolicyTable (catalog_of (tables ++ more) []) shape number
    by_table None at kinds = absurd (let here : None ≡ Some (get_or (map shape_of tables) number empty) = sym at ∙ slice_get-get_or (map shape_of tables) number empty fits.there in cc)
    by_table (Some table) at kinds =
        let here : shapes_at (tables ++ more) number ≡ Some table = ap (λ shapes. slice_get shapes number) (map-append shape_of tables more) ∙ slice_more (map shape_of tables) (map shape_of more) number table at in
        record {
          there = slice_get_within (map shape_of (tables ++ more)) number table here;
          kinds = subst (λ (one : Option TableShape). IfSome one (λ table. All (GivesKind table) (shape.match_field ∷ shape.fields))) (sym here) kinds;
        }

-- it fits them among more tables
pub fits_more : (tables more : List FoundTable) (shape : PolicyShape) → FitsTables tables shape → FitsTables (tables ++ more) shape
fits_more tables more shape fits =
    All-weaker (IsPolicyTable (catalog_of tables []) shape) (IsPolicyTable (catalog_of (tables ++ more) []) shape) (table_more tables more shape) shape.tables fits
