-- The groups of STATS and what aggregates give of them are the same by names and by numbers.
use Rattle.std.proofs.Common.{◌≡◌, ℕ, suc, ◌+◌, Bool, true, false, cond, List, [], ◌∷◌, ◌++◌, map, filter, length, Option, Some, None, refl, ap, sym, ◌∙◌, append_assoc, arith}
use Rattle.std.specs.Prelude.{slice_index_or}
use Rattle.std.specs.List.{flat_map, list_any, AllByRecursion}
use Rattle.std.proofs.lemmas.List.{length-map, map-append}
use Rattle.esql_types.specs.declared.cause.Failure.{Failure}
use Rattle.esql_types.specs.declared.names.NodeId.{NodeId}
use Rattle.esql_types.specs.declared.value.Value.{Value}
use Rattle.esql_types.specs.declared.value.Value.TheVariants.{Bool as Truth}
use Rattle.esql_ast.specs.declared.expr.Expr.{Expr}
use Rattle.esql_ast.specs.declared.query.Condition.{Condition}
use Rattle.esql_ast.specs.declared.query.Field.{Field}
use Rattle.esql_ast.specs.declared.query.StatsField.{StatsField}
use Rattle.function_rules.specs.Lists.{distinct_of}
use Rattle.esql_plan.specs.declared.function.AggFunction.{AggFunction}
use Rattle.esql_plan.specs.declared.function.AggFunction.TheVariants.{CountRows, Count, CountDistinct, Sum, Min, Max, Values}
use Rattle.esql_plan.specs.declared.step.Aggregate.{Aggregate}
use Rattle.esql_plan.specs.declared.step.GroupColumn.{GroupColumn}
use Rattle.esql_plan.specs.Rules.{Given}
use Rattle.esql_plan.specs.Values.{Valued, NumberedRow, failures_at}
use Rattle.plan_semantics.specs.Groups.{Key, same_key, key_cells, choices, Entry, keys_of_entry, keys_of_groups, entries_of_key, count_given, aggregate_of, values_at, aggregates_from as given_from, aggregates_at, cells_of_group, failures_given}
use Rattle.plan_semantics.specs.Stats.{input_cell, entry_of}
use Rattle.plan_semantics.specs.Steps.{is_true}
use Rattle.row_semantics.specs.Rows.{Row}
use Rattle.query_semantics.specs.RowValues.{value_in_row}
use Rattle.query_semantics.specs.Calls.{AggregateCall, calls_of}
use Rattle.query_semantics.specs.Stats.{keys_of_row, keys_of_rows, rows_of_key, counted_rows, values_of_argument, call_gives, failures_in_group}
use Rattle.query_semantics.specs.Writings.{Writing}
use Rattle.query_semantics.specs.WrittenStats.{flag_of, function_of_call, write_call, CallInput, inputs_of_calls, write_flag, write_before, inputs_before, all_inputs, GroupInput, group_inputs, aggregates_from, groups_from}
use Rattle.query_semantics.proofs.CallsWhole.{HasItsArgument}
use Rattle.query_semantics.proofs.Squares.{flat_map_square, flat_map_none, filter_square}
use Rattle.query_semantics.proofs.Distinct.{each_weaker, each_append}
use Rattle.written_laws.proofs.StatsInputs.{Counted, counted_by, calls_in_field, calls_in_fields, flag_cell, cell_read, read_of, flat_map_where}

-- Entries --------------------------------------------------------------------------------------------------------------

-- what groups look at in a row of names
abbrev pub entry_named : List StatsField → List Field → Row → Entry
entry_named fields groups row = record {
  keys = map (λ (group : Field). (value_in_row group.expr row).cell) groups;
  inputs = map (read_of row) (calls_in_fields fields);
}

inputs_from : (number : ℕ) (calls : List CallInput) (row : NumberedRow)
    → map (λ (aggregate : Aggregate). input_cell row aggregate.input) (aggregates_from number calls) ≡ map (λ (call : CallInput). input_cell row call.input) calls
inputs_from number [] row = refl
inputs_from number (call ∷ calls) row = ap (λ these. input_cell row call.input ∷ these) (inputs_from (number + 1) calls row)

keys_from : (number : ℕ) (inputs : List GroupInput) (row : NumberedRow)
    → map (λ (group : GroupColumn). row group.id.0) (groups_from number inputs) ≡ map (λ (input : GroupInput). row input.id.0) inputs
keys_from number [] row = refl
keys_from number (input ∷ inputs) row = ap (λ these. row input.id.0 ∷ these) (keys_from (number + 1) inputs row)

-- a row that has what STATS reads is the entry of the row of names
pub entry_is : (fields : List StatsField) (groups : List Field) (writing with_arguments : Writing) (first second : ℕ) (row : Row) (later : NumberedRow)
    → map (λ (call : CallInput). input_cell later call.input) (all_inputs fields writing) ≡ map (read_of row) (calls_in_fields fields)
    → map (λ (input : GroupInput). later input.id.0) (group_inputs groups with_arguments) ≡ map (λ (group : Field). (value_in_row group.expr row).cell) groups
    → entry_of (aggregates_from first (all_inputs fields writing)) (groups_from second (group_inputs groups with_arguments)) later ≡ entry_named fields groups row
entry_is fields groups writing with_arguments first second row later inputs keys =
    λ i. record { keys = (keys_from second (group_inputs groups with_arguments) later ∙ keys) i; inputs = (inputs_from first (all_inputs fields writing) later ∙ inputs) i }

-- Keys -----------------------------------------------------------------------------------------------------------------

pub keys_named : (fields : List StatsField) (groups : List Field) (writing : Writing) (number : ℕ) (rows : List Row)
    → keys_of_groups (length (groups_from number (group_inputs groups writing))) (map (entry_named fields groups) rows) ≡ keys_of_rows groups rows
keys_named fields [] writing number rows = refl
keys_named fields (group ∷ groups) writing number rows =
    ap (distinct_of same_key) (flat_map_square keys_of_entry (entry_named fields (group ∷ groups)) (keys_of_row (group ∷ groups)) (λ row. refl) rows)

pub entries_named : (fields : List StatsField) (groups : List Field) (key : Key) (rows : List Row)
    → entries_of_key key (map (entry_named fields groups) rows) ≡ map (entry_named fields groups) (rows_of_key groups key rows)
entries_named fields groups key rows =
    filter_square (λ (entry : Entry). list_any (same_key key) (keys_of_entry entry)) (entry_named fields groups) (λ row. list_any (same_key key) (keys_of_row groups row)) (λ row. refl) rows

pub each_map : {A B : Type 0} (P : B → Type 0) (f : A → B) (xs : List A) → AllByRecursion (λ x. P (f x)) xs → AllByRecursion P (map f xs)
each_map P f [] all = tt
each_map P f (x ∷ xs) all = (all.0, each_map P f xs all.1)

each_flat_map : {A B : Type 0} (P : B → Type 0) (f : A → List B) → ((x : A) → AllByRecursion P (f x)) → (xs : List A) → AllByRecursion P (flat_map f xs)
each_flat_map P f each [] = tt
each_flat_map P f each (x ∷ xs) = each_append P (f x) (flat_map f xs) (each x) (each_flat_map P f each xs)

each_filtered : {A : Type 0} (P : A → Type 0) (p : A → Bool) (xs : List A) → AllByRecursion P xs → AllByRecursion P (filter p xs)
each_filtered P p [] all = tt
each_filtered P p (x ∷ xs) all =
    elim (p x) as (λ passes. AllByRecursion P (cond passes (x ∷ filter p xs) (filter p xs))) [ true ↦ (all.0, each_filtered P p xs all.1) | false ↦ each_filtered P p xs all.1 ]

each_distinct : {A : Type 0} (P : A → Type 0) (same : A → A → Bool) (xs : List A) → AllByRecursion P xs → AllByRecursion P (distinct_of same xs)
each_distinct P same [] all = tt
each_distinct P same (x ∷ xs) all = (all.0, each_filtered P _ (distinct_of same xs) (each_distinct P same xs all.1))

abbrev HasLength : {A : Type 0} → ℕ → List A → Type 0
HasLength count items = length items ≡ count

choices_long : {A : Type 0} (lists : List (List A)) → AllByRecursion (HasLength (length lists)) (choices lists)
choices_long [] = (refl, tt)
choices_long (items ∷ lists) =
    each_flat_map (HasLength (length (items ∷ lists))) (λ item. map (λ more. item ∷ more) (choices lists))
    (λ item. each_map (HasLength (length (items ∷ lists))) (λ more. item ∷ more) (choices lists)
    (each_weaker (HasLength (length lists)) (λ more. HasLength (length (items ∷ lists)) (item ∷ more)) (λ more is. ap (λ (n : ℕ). suc n) is) (choices lists) (choices_long lists)))
    items

-- a key has a cell for each group
pub keys_long : (groups : List Field) (rows : List Row) → AllByRecursion (λ (key : Key). length key ≡ length groups) (keys_of_rows groups rows)
keys_long [] rows = (refl, tt)
keys_long (group ∷ groups) rows =
    each_distinct (λ (key : Key). length key ≡ length (group ∷ groups)) same_key (flat_map (keys_of_row (group ∷ groups)) rows)
    (each_flat_map (λ (key : Key). length key ≡ length (group ∷ groups)) (keys_of_row (group ∷ groups))
    (λ row.
    let cells : List (List Value) = map (λ (this : Field). (value_in_row this.expr row).cell) (group ∷ groups) in
    each_weaker (HasLength (length (map key_cells cells))) (λ (key : Key). length key ≡ length (group ∷ groups))
    (λ key is. is ∙ length-map cells key_cells ∙ length-map (group ∷ groups) (λ (this : Field). (value_in_row this.expr row).cell)) (keys_of_row (group ∷ groups) row) (choices_long (map key_cells cells))) rows)

-- Aggregates -----------------------------------------------------------------------------------------------------------------

-- a call has its argument
abbrev pub IsWhole : Counted → Type 0
IsWhole counted = HasItsArgument counted.call.function counted.call.argument

-- rows on which a condition is true are counted as values of its column
abbrev function_wanted : Option Condition → AggFunction → AggFunction
function_wanted None function = function
function_wanted (Some condition) CountRows = Count
function_wanted (Some condition) other = other

flags_counted : (condition : Condition) (rows : List Row) → length (flat_map (flag_cell condition) rows) ≡ length (filter (λ row. is_true (value_in_row condition.expr row).cell) rows)
flags_counted condition [] = refl
flags_counted condition (row ∷ rows) =
    let counted : List Row = filter (λ row. is_true (value_in_row condition.expr row).cell) rows in
    elim (is_true (value_in_row condition.expr row).cell) as (λ b. length (cond b (Truth true ∷ []) [] ++ flat_map (flag_cell condition) rows) ≡ length (cond b (row ∷ counted) counted))
    [ true ↦ ap (λ (n : ℕ). suc n) (flags_counted condition rows) | false ↦ flags_counted condition rows ]

-- only a count of rows looks at their number
rows_unread : (function : AggFunction) (argument : Expr) → HasItsArgument function (Some argument) → (these those : ℕ) (values : List Value) → aggregate_of function these values ≡ aggregate_of function those values
rows_unread CountRows argument whole these those values = absurd whole
rows_unread Count argument whole these those values = refl
rows_unread CountDistinct argument whole these those values = refl
rows_unread Sum argument whole these those [] = refl
rows_unread Sum argument whole these those (value ∷ values) = refl
rows_unread Min argument whole these those values = refl
rows_unread Max argument whole these those values = refl
rows_unread Values argument whole these those values = refl

aggregate_is : (condition : Option Condition) (function : AggFunction) (argument : Option Expr) → HasItsArgument function argument → (rows : List Row)
    → aggregate_of (function_wanted condition function) (length rows) (flat_map (cell_read condition argument) rows)
    ≡ aggregate_of function (length (counted_rows condition rows)) (values_of_argument argument (counted_rows condition rows))
aggregate_is None function None whole rows = ap (aggregate_of function (length rows)) (flat_map_none (λ (row : Row). []) (λ row. refl) rows)
aggregate_is None function (Some argument) whole rows = refl
aggregate_is (Some condition) CountRows None whole rows = ap count_given (flags_counted condition rows)
aggregate_is (Some condition) CountRows (Some argument) whole rows = absurd whole
aggregate_is (Some condition) other None whole rows = absurd whole
aggregate_is (Some condition) other (Some argument) whole rows =
    ap (aggregate_of other (length rows)) (flat_map_where (λ (this : Valued). this.cell) (λ row. is_true (value_in_row condition.expr row).cell) (value_in_row argument) refl rows)
    ∙ rows_unread other argument whole (length rows) (length (counted_rows (Some condition) rows)) (values_of_argument (Some argument) (counted_rows (Some condition) rows))

-- an aggregate without its columns
record Sign : Type 0 where
  node : NodeId
  function : AggFunction

abbrev sign_of : CallInput → Sign
sign_of call = record { node = call.node; function = call.function }

abbrev sign_wanted : Counted → Sign
sign_wanted counted = record { node = counted.call.node; function = function_wanted counted.condition counted.call.function }

function_is : (condition : Option Condition) (first : Writing) (function : AggFunction) → function_of_call (flag_of condition first) function ≡ function_wanted condition function
function_is None first function = refl
function_is (Some condition) first CountRows = refl
function_is (Some condition) first other = refl

calls_signed : (condition : Option Condition) (first : Writing) (calls : List AggregateCall) (writing : Writing)
    → map sign_of (inputs_of_calls (flag_of condition first) calls writing) ≡ map sign_wanted (map (counted_by condition) calls)
calls_signed condition first [] writing = refl
calls_signed condition first (call ∷ calls) writing =
    λ i. record { node = call.node; function = function_is condition first call.function i } ∷ calls_signed condition first calls (write_call (flag_of condition first) call.argument writing) i

pub fields_signed : (fields : List StatsField) (writing : Writing) → map sign_of (all_inputs fields writing) ≡ map sign_wanted (calls_in_fields fields)
fields_signed [] writing = refl
fields_signed (stats ∷ fields) writing =
    map-append sign_of (inputs_before stats writing) (all_inputs fields (write_before stats writing))
    ∙ (λ i. calls_signed stats.condition writing (calls_of stats.field.expr) (write_flag stats.condition writing) i ++ fields_signed fields (write_before stats writing) i)
    ∙ sym (map-append sign_wanted (calls_in_field stats) (calls_in_fields fields))

pub inputs_long : (fields : List StatsField) (writing : Writing) → length (all_inputs fields writing) ≡ length (calls_in_fields fields)
inputs_long fields writing =
    sym (length-map (all_inputs fields writing) sign_of) ∙ ap (λ (these : List Sign). length these) (fields_signed fields writing) ∙ length-map (calls_in_fields fields) sign_wanted

abbrev gives_of : ℕ → List Sign → List Entry → List Given
gives_of place [] entries = []
gives_of place (sign ∷ signs) entries = aggregate_of sign.function (length entries) (values_at place entries) ∷ gives_of (place + 1) signs entries

given_by_signs : (place number : ℕ) (calls : List CallInput) (entries : List Entry) → given_from place (aggregates_from number calls) entries ≡ gives_of place (map sign_of calls) entries
given_by_signs place number [] entries = refl
given_by_signs place number (call ∷ calls) entries = ap (λ these. aggregate_of call.function (length entries) (values_at place entries) ∷ these) (given_by_signs (place + 1) (number + 1) calls entries)

abbrev failures_of_signs : List Sign → List Given → List Failure
failures_of_signs [] results = []
failures_of_signs (sign ∷ signs) [] = []
failures_of_signs (sign ∷ signs) (one ∷ results) = failures_at sign.node one.causes ++ failures_of_signs signs results

failures_by_signs : (number : ℕ) (calls : List CallInput) (results : List Given) → failures_given (aggregates_from number calls) results ≡ failures_of_signs (map sign_of calls) results
failures_by_signs number [] results = refl
failures_by_signs number (call ∷ calls) [] = refl
failures_by_signs number (call ∷ calls) (one ∷ results) = ap (λ these. failures_at call.node one.causes ++ these) (failures_by_signs (number + 1) calls results)

-- the item at a place
at_place : {A B : Type 0} (f : A → B) (before : List A) (item : A) (after : List A) (other : B) → slice_index_or (map f (before ++ item ∷ after)) (length before) other ≡ f item
at_place f [] item after other = refl
at_place f (first ∷ before) item after other = at_place f before item after other

length_push : {A : Type 0} (before : List A) (item : A) → length (before ++ item ∷ []) ≡ length before + 1
length_push [] item = refl
length_push (first ∷ before) item = ap (λ (n : ℕ). suc n) (length_push before item) ∙ omega arith

-- what an aggregate call gives of rows
abbrev pub gives : List Row → Counted → Given
gives rows counted = call_gives counted.condition counted.call rows

module _ (fields : List StatsField) (groups : List Field) (rows : List Row) where
  abbrev entries : List Entry
  entries = map (entry_named fields groups) rows

  values_named : (before : List Counted) (counted : Counted) (after : List Counted) → calls_in_fields fields ≡ before ++ counted ∷ after
      → values_at (length before) entries ≡ flat_map (cell_read counted.condition counted.call.argument) rows
  values_named before counted after is =
      flat_map_square (λ (entry : Entry). slice_index_or entry.inputs (length before) []) (entry_named fields groups) (cell_read counted.condition counted.call.argument)
      (λ row. ap (λ (these : List Counted). slice_index_or (map (read_of row) these) (length before) []) is ∙ at_place (read_of row) before counted after []) rows

  given_named : (before counteds : List Counted) → calls_in_fields fields ≡ before ++ counteds → AllByRecursion IsWhole counteds
      → gives_of (length before) (map sign_wanted counteds) entries ≡ map (gives rows) counteds
  given_named before [] is whole = refl
  given_named before (counted ∷ counteds) is whole =
      let function : AggFunction = function_wanted counted.condition counted.call.function in
      let one : aggregate_of function (length entries) (values_at (length before) entries) ≡ gives rows counted =
      (λ i. aggregate_of function (length-map rows (entry_named fields groups) i) (values_named before counted counteds is i))
      ∙ aggregate_is counted.condition counted.call.function counted.call.argument whole.0 rows in
      let rest = given_named (before ++ counted ∷ []) counteds (is ∙ sym (append_assoc before (counted ∷ []) counteds)) whole.1 in
      (λ i. one i ∷ gives_of (sym (length_push before counted) i) (map sign_wanted counteds) entries)
      ∙ ap (λ (these : List Given). gives rows counted ∷ these) rest

failures_named : (rows : List Row) (counteds : List Counted)
    → failures_of_signs (map sign_wanted counteds) (map (gives rows) counteds) ≡ flat_map (λ counted. failures_at counted.call.node (gives rows counted).causes) counteds
failures_named rows [] = refl
failures_named rows (counted ∷ counteds) = ap (λ these. failures_at counted.call.node (gives rows counted).causes ++ these) (failures_named rows counteds)

flat_map-append : {A B : Type 0} (f : A → List B) (xs ys : List A) → flat_map f (xs ++ ys) ≡ flat_map f xs ++ flat_map f ys
flat_map-append f [] ys = refl
flat_map-append f (x ∷ xs) ys = ap (λ these. f x ++ these) (flat_map-append f xs ys) ∙ sym (append_assoc (f x) (flat_map f xs) (flat_map f ys))

failures_in_fields : (rows : List Row) (fields : List StatsField)
    → flat_map (λ counted. failures_at counted.call.node (gives rows counted).causes) (calls_in_fields fields) ≡ flat_map (λ stats. failures_in_group stats rows) fields
failures_in_fields rows [] = refl
failures_in_fields rows (stats ∷ fields) =
    flat_map-append (λ (counted : Counted). failures_at counted.call.node (gives rows counted).causes) (calls_in_field stats) (calls_in_fields fields)
    ∙ (λ i. flat_map_square (λ (counted : Counted). failures_at counted.call.node (gives rows counted).causes) (counted_by stats.condition)
    (λ (call : AggregateCall). failures_at call.node (call_gives stats.condition call rows).causes) (λ call. refl) (calls_of stats.field.expr) i ++ failures_in_fields rows fields i)

-- Groups ---------------------------------------------------------------------------------------------------------------------

module _ (fields : List StatsField) (groups : List Field) (writing : Writing) (number : ℕ) (rows : List Row) (whole : AllByRecursion IsWhole (calls_in_fields fields)) where
  abbrev aggregates : List Aggregate
  aggregates = aggregates_from number (all_inputs fields writing)

  abbrev all_entries : List Entry
  all_entries = map (entry_named fields groups) rows

  aggregates_named : (key : Key) → aggregates_at aggregates all_entries key ≡ map (gives (rows_of_key groups key rows)) (calls_in_fields fields)
  aggregates_named key =
      ap (given_from 0 aggregates) (entries_named fields groups key rows)
      ∙ given_by_signs 0 number (all_inputs fields writing) (map (entry_named fields groups) (rows_of_key groups key rows))
      ∙ ap (λ (these : List Sign). gives_of 0 these (map (entry_named fields groups) (rows_of_key groups key rows))) (fields_signed fields writing)
      ∙ given_named fields groups (rows_of_key groups key rows) [] (calls_in_fields fields) refl whole

  -- the cells of a group
  pub group_named : (key : Key) → cells_of_group aggregates all_entries key ≡ map (λ (one : Given). one.cell) (map (gives (rows_of_key groups key rows)) (calls_in_fields fields)) ++ key
  group_named key = ap (λ (these : List Given). map (λ (one : Given). one.cell) these ++ key) (aggregates_named key)

  -- and its failures
  pub group_fails : (key : Key) → failures_given aggregates (aggregates_at aggregates all_entries key) ≡ flat_map (λ stats. failures_in_group stats (rows_of_key groups key rows)) fields
  group_fails key =
      let in_group : List Row = rows_of_key groups key rows in
      ap (failures_given aggregates) (aggregates_named key)
      ∙ failures_by_signs number (all_inputs fields writing) (map (gives in_group) (calls_in_fields fields))
      ∙ ap (λ (these : List Sign). failures_of_signs these (map (gives in_group) (calls_in_fields fields))) (fields_signed fields writing)
      ∙ failures_named in_group (calls_in_fields fields)
      ∙ failures_in_fields in_group fields
