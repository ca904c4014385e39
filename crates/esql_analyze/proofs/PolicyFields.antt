-- The fields of a policy by their names, and those that ENRICH takes, item after item.
use Rattle.std.proofs.Common.{◌≡◌, ℕ, suc, ◌+◌, ◌-◌, ◌<◌, true, false, cond, List, [], ◌∷◌, ◌++◌, length, get_or, drop, Option, Some, None, refl, ap, sym, ◌∙◌, arith, drop-cons, append_assoc}
use Rattle.std.specs.Prelude.{option_map}
use Rattle.std.specs.List.{filter_map, cons_option}
use Rattle.std.specs.Str.{bytes_eq}
use Rattle.std.proofs.lemmas.List.{append-nil}
use Rattle.esql_types.specs.declared.names.Column.{Column}
use Rattle.esql_ast.specs.declared.query.EnrichItem.{EnrichItem}
use Rattle.query_semantics.specs.Appended.{FieldTaken, field_from, item_name, taken_as, taken_item, taken_columns, taken_numbers}
use Rattle.query_semantics.specs.AppendedShapes.{or_unknown, first_unknown}
use Rattle.esql_analyze.specs.declared.policy_fields.Placed.{Placed}
use Rattle.esql_analyze.specs.declared.policy_fields.Taken.{Taken}
use Rattle.esql_analyze.specs.Policies.{placed_of, field_placed, AreTaken}

-- a map that is filled from the end ----------------------------------------------------------------------------------------

abbrev pub at_place : ℕ → Column → Placed
at_place place column = record { number = place; kind = column.kind }

-- the first of these fields that has a name, where the first of them stands at a place
abbrev pub placed_from : List Column → ℕ → List ℕ → Option Placed
placed_from [] place name = None
placed_from (column ∷ columns) place name = cond (bytes_eq column.name name) (Some (at_place place column)) (placed_from columns (place + 1) name)

pub placed_is : (columns : List Column) (place : ℕ) (name : List ℕ) → placed_from columns place name ≡ option_map placed_of (field_from place columns name)
placed_is [] place name = refl
placed_is (column ∷ columns) place name =
    elim (bytes_eq column.name name) as (λ is. cond is (Some (at_place place column)) (placed_from columns (place + 1) name)
    ≡ option_map placed_of (cond is (Some (record { number = place; column = column })) (field_from (place + 1) columns name)))
    [ true ↦ refl | false ↦ placed_is columns (place + 1) name ]

pub drop_back : {A : Type 0} (items : List A) (back : ℕ) (item : A) → back < length items → item ≡ get_or items (length items - 1 - back) item
    → drop (length items - (back + 1)) items ≡ item ∷ drop (length items - back) items
drop_back items back item within is =
    let place : length items - (back + 1) ≡ length items - 1 - back = omega arith in
    let next : suc (length items - 1 - back) ≡ length items - back = omega arith in
    ap (λ n. drop n items) place
    ∙ drop-cons items (length items - 1 - back) item (omega arith)
    ∙ ap (λ first. first ∷ drop (suc (length items - 1 - back)) items) (sym is)
    ∙ ap (λ n. item ∷ drop n items) next

-- one more field stands before those of which the first of a name is known
pub placed_turn : (columns : List Column) (back : ℕ) (column : Column) (name : List ℕ) → back < length columns → column ≡ get_or columns (length columns - 1 - back) column
    → cond (bytes_eq column.name name) (Some (at_place (length columns - 1 - back) column)) (placed_from (drop (length columns - back) columns) (length columns - back) name)
    ≡ placed_from (drop (length columns - (back + 1)) columns) (length columns - (back + 1)) name
placed_turn columns back column name within is =
    let place : length columns - 1 - back ≡ length columns - (back + 1) = omega arith in
    let next : length columns - back ≡ length columns - (back + 1) + 1 = omega arith in
    ap (λ at. cond (bytes_eq column.name name) (Some (at_place at column)) (placed_from (drop (length columns - back) columns) (length columns - back) name)) place
    ∙ ap (λ at. cond (bytes_eq column.name name) (Some (at_place (length columns - (back + 1)) column)) (placed_from (drop (length columns - back) columns) at name)) next
    ∙ ap (λ these. placed_from these (length columns - (back + 1)) name) (sym (drop_back columns back column within is))

-- fields that are taken in turn ---------------------------------------------------------------------------------------------

-- the fields that are taken so far, with those that are left
pub record TakenSoFar (all left : List FieldTaken) (taken : Taken) : Type 0 where
  pub numbers : taken.numbers ++ taken_numbers left ≡ taken_numbers all
  pub columns : taken.columns ++ taken_columns left ≡ taken_columns all

pub none_taken : (all : List FieldTaken) (taken : Taken) → AreTaken [] taken → TakenSoFar all all taken
none_taken all taken are =
    record { numbers = ap (λ (these : List ℕ). these ++ taken_numbers all) are.numbers; columns = ap (λ (these : List Column). these ++ taken_columns all) are.columns }

pub one_taken : (all left : List FieldTaken) (one : FieldTaken) (old new : Taken) → TakenSoFar all (one ∷ left) old → new.numbers ≡ old.numbers ++ one.number ∷ [] → new.columns ≡ old.columns ++ one.column ∷ []
    → TakenSoFar all left new
one_taken all left one old new so_far number column = record {
  numbers = ap (λ (these : List ℕ). these ++ taken_numbers left) number ∙ append_assoc old.numbers (one.number ∷ []) (taken_numbers left) ∙ so_far.numbers;
  columns = ap (λ (these : List Column). these ++ taken_columns left) column ∙ append_assoc old.columns (one.column ∷ []) (taken_columns left) ∙ so_far.columns;
}

pub all_taken : (all : List FieldTaken) (taken : Taken) → TakenSoFar all [] taken → AreTaken all taken
all_taken all taken so_far = record { numbers = sym (append-nil taken.numbers) ∙ so_far.numbers; columns = sym (append-nil taken.columns) ∙ so_far.columns }

-- items ---------------------------------------------------------------------------------------------------------------------

-- a field that has the name of an item, by what is kept of it
pub record IsItem (fields : List Column) (item : EnrichItem) (placed : Placed) : Type 0 where
  pub found : FieldTaken
  pub is : field_from 0 fields item.field.name ≡ Some found
  pub placed_is : placed_of found ≡ placed

pub item_found : (fields : List Column) (item : EnrichItem) (placed : Placed) → field_placed fields item.field.name ≡ Some placed → IsItem fields item placed
item_found fields item placed is = by_found (field_from 0 fields item.field.name) refl is
  where
    by_found : (found : Option FieldTaken) → field_from 0 fields item.field.name ≡ found → option_map placed_of found ≡ Some placed → IsItem fields item placed
    by_found None same none = absurd cc
    by_found (Some found) same some = record { found = found; is = same; placed_is = cc }

-- the column that an item becomes
abbrev pub item_column : EnrichItem → Placed → Column
item_column item placed = record { name = item_name item; kind = placed.kind }

abbrev pub item_taken : EnrichItem → Placed → FieldTaken
item_taken item placed = record { number = placed.number; column = item_column item placed }

pub item_first : (fields : List Column) (item : EnrichItem) (items : List EnrichItem) (placed : Placed) → field_placed fields item.field.name ≡ Some placed
    → filter_map (taken_item fields) (item ∷ items) ≡ item_taken item placed ∷ filter_map (taken_item fields) items
item_first fields item items placed is =
    let found = item_found fields item placed is in
    ap (λ (these : Option FieldTaken). cons_option (option_map (taken_as (item_name item)) these) (filter_map (taken_item fields) items)) found.is
    ∙ ap (λ (these : Placed). item_taken item these ∷ filter_map (taken_item fields) items) found.placed_is

pub item_known : (fields : List Column) (item : EnrichItem) (items : List EnrichItem) (placed : Placed) → field_placed fields item.field.name ≡ Some placed
    → first_unknown fields (item ∷ items) ≡ first_unknown fields items
item_known fields item items placed is =
    ap (λ (these : Option FieldTaken). or_unknown these item.field.span (first_unknown fields items)) (item_found fields item placed is).is

pub item_unknown : (fields : List Column) (item : EnrichItem) (items : List EnrichItem) → field_placed fields item.field.name ≡ None → first_unknown fields (item ∷ items) ≡ Some item.field.span
item_unknown fields item items is = ap (λ (these : Option FieldTaken). or_unknown these item.field.span (first_unknown fields items)) (none_found (field_from 0 fields item.field.name) is)
  where
    none_found : (found : Option FieldTaken) → option_map placed_of found ≡ None → found ≡ None
    none_found None none = refl
    none_found (Some found) none = absurd cc
