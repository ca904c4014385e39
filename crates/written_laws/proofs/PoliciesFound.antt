-- The policy of a name and the fields that ENRICH takes stand where their numbers say.
use Rattle.std.proofs.Common.{◌≡◌, ℕ, zero, suc, ◌+◌, Bool, true, false, cond, List, [], ◌∷◌, ◌++◌, length, All, Option, Some, None, refl, sym, subst, append_assoc}
use Rattle.std.specs.Prelude.{slice_get, option_map}
use Rattle.std.specs.List.{AllZip, filter_map, cons_option}
use Rattle.std.specs.Str.{bytes_eq}
use Rattle.std.proofs.lemmas.List.Elements.{All-nil, All-cons, All-head, All-tail}
use Rattle.esql_types.specs.declared.names.Column.{Column}
use Rattle.esql_ast.specs.declared.query.EnrichItem.{EnrichItem}
use Rattle.esql_plan.specs.declared.catalog.PolicyShape.{PolicyShape}
use Rattle.plan_semantics.specs.WellFormed.{IsField}
use Rattle.query_semantics.specs.Appended.{FoundPolicy, policy_from, FieldTaken, all_fields, field_from, item_name, taken_as, taken_item, fields_taken, taken_columns, taken_numbers}
use Rattle.query_semantics.specs.WrittenAppended.{new_columns}
use Rattle.written_laws.proofs.Numbers.{slice_get-behind, length-push}

-- what holds of all holds of the one at a place
pub all_at_place : {Item : Type 0} (P : Item → Type 0) (all : List Item) (place : ℕ) (item : Item) → All P all → slice_get all place ≡ Some item → P item
all_at_place P [] place item holds is = absurd cc
all_at_place P (first ∷ all) zero item holds is = let same : first ≡ item = cc in subst P same (All-head P first all holds)
all_at_place P (first ∷ all) (suc place) item holds is = all_at_place P all place item (All-tail P first all holds) is

-- a policy behind others
pub policy_at : (before policies : List PolicyShape) (name : List ℕ) (found : FoundPolicy) → policy_from (length before) policies name ≡ Some found → slice_get (before ++ policies) found.number ≡ Some found.shape
policy_at before [] name found is = absurd cc
policy_at before (policy ∷ policies) name found is =
    by_same (bytes_eq policy.name name) is (λ later.
    subst (λ (all : List PolicyShape). slice_get all found.number ≡ Some found.shape) (append_assoc before (policy ∷ []) policies)
    (policy_at (before ++ policy ∷ []) policies name found (subst (λ (n : ℕ). policy_from n policies name ≡ Some found) (sym (length-push before policy)) later)))
  where
    by_same : (same : Bool) → cond same (Some (record { number = length before; shape = policy })) (policy_from (length before + 1) policies name) ≡ Some found
        → (policy_from (length before + 1) policies name ≡ Some found → slice_get (before ++ policy ∷ policies) found.number ≡ Some found.shape)
        → slice_get (before ++ policy ∷ policies) found.number ≡ Some found.shape
    by_same true here rest =
        let same : record { number = length before; shape = policy } ≡ found = cc in
        subst (λ (this : FoundPolicy). slice_get (before ++ policy ∷ policies) this.number ≡ Some this.shape) same (slice_get-behind before policy policies)
    by_same false later rest = rest later

field_at : (before fields : List Column) (name : List ℕ) (taken : FieldTaken) → field_from (length before) fields name ≡ Some taken → slice_get (before ++ fields) taken.number ≡ Some taken.column
field_at before [] name taken is = absurd cc
field_at before (field ∷ fields) name taken is =
    by_same (bytes_eq field.name name) is (λ later.
    subst (λ (all : List Column). slice_get all taken.number ≡ Some taken.column) (append_assoc before (field ∷ []) fields)
    (field_at (before ++ field ∷ []) fields name taken (subst (λ (n : ℕ). field_from n fields name ≡ Some taken) (sym (length-push before field)) later)))
  where
    by_same : (same : Bool) → cond same (Some (record { number = length before; column = field })) (field_from (length before + 1) fields name) ≡ Some taken
        → (field_from (length before + 1) fields name ≡ Some taken → slice_get (before ++ field ∷ fields) taken.number ≡ Some taken.column)
        → slice_get (before ++ field ∷ fields) taken.number ≡ Some taken.column
    by_same true here rest =
        let same : record { number = length before; column = field } ≡ taken = cc in
        subst (λ (this : FieldTaken). slice_get (before ++ field ∷ fields) this.number ≡ Some this.column) same (slice_get-behind before field fields)
    by_same false later rest = rest later

-- fields that are taken ----------------------------------------------------------------------------------------------------------

-- what is taken has the kind of the field of its number
pub record IsTaken (fields : List Column) (taken : FieldTaken) : Type 0 where
  pub field : Column
  pub is : slice_get fields taken.number ≡ Some field
  pub kind : taken.column.kind ≡ field.kind

all_taken : (before fields : List Column) → All (IsTaken (before ++ fields)) (all_fields (length before) fields)
all_taken before [] = All-nil (IsTaken (before ++ []))
all_taken before (field ∷ fields) =
    let all : List Column = before ++ field ∷ fields in
    let more : List Column = before ++ field ∷ [] in
    All-cons (IsTaken all) (record { number = length before; column = field }) (all_fields (length before + 1) fields)
    (record { field = field; is = slice_get-behind before field fields; kind = refl })
    (subst (λ (n : ℕ). All (IsTaken all) (all_fields n fields)) (length-push before field)
    (subst (λ (these : List Column). All (IsTaken these) (all_fields (length more) fields)) (append_assoc before (field ∷ []) fields) (all_taken more fields)))

items_taken : (fields : List Column) (items : List EnrichItem) → All (IsTaken fields) (filter_map (taken_item fields) items)
items_taken fields [] = All-nil (IsTaken fields)
items_taken fields (item ∷ items) = by_found (field_from 0 fields item.field.name) refl (items_taken fields items)
  where
    by_found : (found : Option FieldTaken) → field_from 0 fields item.field.name ≡ found → All (IsTaken fields) (filter_map (taken_item fields) items)
        → All (IsTaken fields) (cons_option (option_map (taken_as (item_name item)) found) (filter_map (taken_item fields) items))
    by_found None is rest = rest
    by_found (Some taken) is rest =
        All-cons (IsTaken fields) (taken_as (item_name item) taken) (filter_map (taken_item fields) items)
        (record { field = taken.column; is = field_at [] fields item.field.name taken is; kind = refl }) rest

pub fields_are_taken : (fields : List Column) (items : Option (List EnrichItem)) → All (IsTaken fields) (fields_taken fields items)
fields_are_taken fields None = all_taken [] fields
fields_are_taken fields (Some items) = items_taken fields items

-- the new columns have their kinds
pub fields_are : (policy : PolicyShape) (taken : List FieldTaken) (next : ℕ) → All (IsTaken policy.fields) taken → AllZip (IsField policy) (taken_numbers taken) (new_columns next (taken_columns taken))
fields_are policy [] next all = tt
fields_are policy (one ∷ taken) next all =
    let own : IsTaken policy.fields one = All-head (IsTaken policy.fields) one taken all in
    (record { field = own.field; is = own.is; kind = own.kind }, fields_are policy taken (next + 1) (All-tail (IsTaken policy.fields) one taken all))
