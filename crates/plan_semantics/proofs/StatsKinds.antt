-- The rows of groups have cells of their kinds in the columns that Stats makes.
use Rattle.std.proofs.Common.{◌≡◌, ℕ, zero, suc, ◌+◌, ◌==◌, Bool, false, List, [], ◌∷◌, ◌++◌, map, length, drop, All, Option, Some, None, slice_get, slice_index_or, refl, ap, subst, ◌∙◌, add-one}
use Rattle.std.specs.List.{flat_map, list_any, AllZip, AllByRecursion, IsDistinct}
use Rattle.std.proofs.lemmas.List.Elements.{All-nil, All-cons, All-head, All-tail, All-map, All-weaker, All-filter}
use Rattle.std.proofs.lemmas.Map.Keys.{IsDistinct-head, IsDistinct-tail}
use Rattle.std.specs.Prelude.{not}
use Rattle.esql_types.specs.declared.value.Value.{Value}
use Rattle.esql_types.specs.declared.value.Kind.{Kind}
use Rattle.esql_types.specs.declared.names.ColId.{ColId}
use Rattle.esql_types.specs.Values.{value_cmp}
use Rattle.function_rules.specs.Lists.{distinct_of}
use Rattle.number_rules.specs.Sums.{sum_within}
use Rattle.esql_plan.specs.declared.function.AggFunction.{AggFunction}
use Rattle.esql_plan.specs.declared.function.AggFunction.TheVariants.{CountRows, Count, CountDistinct, Sum, Min, Max, Values}
use Rattle.esql_plan.specs.declared.step.Aggregate.{Aggregate}
use Rattle.esql_plan.specs.declared.step.GroupColumn.{GroupColumn}
use Rattle.esql_plan.specs.Rules.{Given, number_of}
use Rattle.esql_plan.specs.Values.{NumberedRow}
use Rattle.plan_semantics.specs.Aggregates.{aggregate_kind}
use Rattle.plan_semantics.specs.Groups.{same_value, same_key, distinct_values, Key, key_cells, choices, Entry, keys_of_entry, keys_of_groups, entries_of_key, aggregate_of, values_at, aggregates_from, aggregates_at, cells_of_group}
use Rattle.plan_semantics.specs.Stats.{input_cell, entry_of, entries_of, stats_columns, row_of_columns, stats_row, stats_rows}
use Rattle.plan_semantics.specs.WellFormed.{Bounds, MadeColumn, made_as, IsMade, kind_made, input_kind, stats_made, InputStands, AggregateStands, StatsStand, RowHas}
use Rattle.plan_semantics.proofs.ResultKinds.{Has, has_test, pass_one, pass_first, pass_rest, pass_append, pass_distinct, pass_least, pass_greatest, sum_has}
use Rattle.plan_semantics.proofs.RowKinds.{all_flat, has_new, made_has, HasColumn}

abbrev HaveKinds : List Kind → List (List Value) → Type 0
HaveKinds kinds cells = AllZip Has kinds cells

-- aggregates ---------------------------------------------------------------------------------------------------------------------

aggregate_has : (function : AggFunction) (kind : Kind) (rows : ℕ) (values : List Value) → Has kind values → Has (aggregate_kind function kind) (aggregate_of function rows values).cell
aggregate_has CountRows kind rows values has = refl
aggregate_has Count kind rows values has = refl
aggregate_has CountDistinct kind rows values has = refl
aggregate_has Sum kind rows [] has = refl
aggregate_has Sum kind rows (value ∷ values) has = sum_has false (sum_within 63 (map number_of (value ∷ values)))
aggregate_has Min kind rows values has = pass_least (has_test kind) value_cmp values has
aggregate_has Max kind rows values has = pass_greatest (has_test kind) value_cmp values has
aggregate_has Values kind rows values has = pass_distinct (has_test kind) same_value values has

-- the cells of entries have the kinds of the columns that rows are grouped by, and of the inputs
record EntryHas (keyed read : List Kind) (entry : Entry) : Type 0 where
  keys : HaveKinds keyed entry.keys
  inputs : HaveKinds read entry.inputs

cell_at : (kinds : List Kind) (cells : List (List Value)) (place : ℕ) (kind : Kind) → HaveKinds kinds cells → slice_get kinds place ≡ Some kind → Has kind (slice_index_or cells place [])
cell_at [] cells place kind have is = absurd cc
cell_at (first ∷ kinds) [] place kind have is = absurd have
cell_at (first ∷ kinds) (cell ∷ cells) zero kind have is = let same : first ≡ kind = cc in subst (λ kind. Has kind cell) same have.0
cell_at (first ∷ kinds) (cell ∷ cells) (suc place) kind have is = cell_at kinds cells place kind have.1 is

values_have : (keyed read : List Kind) (place : ℕ) (kind : Kind) → slice_get read place ≡ Some kind → (entries : List Entry) → All (EntryHas keyed read) entries → Has kind (values_at place entries)
values_have keyed read place kind is [] all = refl
values_have keyed read place kind is (entry ∷ entries) all =
    pass_append (has_test kind) (slice_index_or entry.inputs place []) (values_at place entries)
    (cell_at read entry.inputs place kind (All-head (EntryHas keyed read) entry entries all).inputs is)
    (values_have keyed read place kind is entries (All-tail (EntryHas keyed read) entry entries all))

here : {Item : Type 0} (items : List Item) (place : ℕ) (item : Item) (rest : List Item) → drop place items ≡ item ∷ rest → slice_get items place ≡ Some item
here [] zero item rest is = absurd cc
here [] (suc place) item rest is = absurd cc
here (first ∷ items) zero item rest is = let same : first ≡ item = cc in ap Some same
here (first ∷ items) (suc place) item rest is = here items place item rest is

one_later : {Item : Type 0} (items : List Item) (place : ℕ) (item : Item) (rest : List Item) → drop place items ≡ item ∷ rest → drop (suc place) items ≡ rest
one_later [] zero item rest is = absurd cc
one_later [] (suc place) item rest is = absurd cc
one_later (first ∷ items) zero item rest is = let same : items ≡ rest = cc in same
one_later (first ∷ items) (suc place) item rest is = one_later items place item rest is

behind_it : {Item : Type 0} (items : List Item) (place : ℕ) (item : Item) (rest : List Item) → drop place items ≡ item ∷ rest → drop (place + 1) items ≡ rest
behind_it items place item rest is = ap (λ next. drop next items) (add-one place) ∙ one_later items place item rest is

module _ (made : List MadeColumn) where
  abbrev read_kind : Aggregate → Kind
  read_kind aggregate = input_kind made aggregate.input

  abbrev given_kind : Aggregate → Kind
  given_kind aggregate = aggregate_kind aggregate.function (read_kind aggregate)

  abbrev group_kind : GroupColumn → Kind
  group_kind group = kind_made made group.id

  aggregates_have : (keyed read : List Kind) (place : ℕ) (aggregates : List Aggregate) → drop place read ≡ map read_kind aggregates
      → (entries : List Entry) → All (EntryHas keyed read) entries → HaveKinds (map given_kind aggregates) (map (λ (one : Given). one.cell) (aggregates_from place aggregates entries))
  aggregates_have keyed read place [] is entries all = tt
  aggregates_have keyed read place (aggregate ∷ aggregates) is entries all = (
    aggregate_has aggregate.function (read_kind aggregate) (length entries) (values_at place entries)
        (values_have keyed read place (read_kind aggregate) (here read place (read_kind aggregate) (map read_kind aggregates) is) entries all),
    aggregates_have keyed read (place + 1) aggregates (behind_it read place (read_kind aggregate) (map read_kind aggregates) is) entries all,
  )

-- keys ------------------------------------------------------------------------------------------------------------------------------

singles_have : (kind : Kind) (values : List Value) → Has kind values → All (Has kind) (map (λ (one : Value). one ∷ []) values)
singles_have kind [] has = All-nil (Has kind)
singles_have kind (value ∷ values) has =
    All-cons (Has kind) (value ∷ []) (map (λ (one : Value). one ∷ []) values)
    (pass_one (has_test kind) value (pass_first (has_test kind) value values has)) (singles_have kind values (pass_rest (has_test kind) value values has))

key_cells_have : (kind : Kind) (cell : List Value) → Has kind cell → All (Has kind) (key_cells cell)
key_cells_have kind [] has = All-cons (Has kind) [] [] refl (All-nil (Has kind))
key_cells_have kind (value ∷ values) has = singles_have kind (distinct_values (value ∷ values)) (pass_distinct (has_test kind) same_value (value ∷ values) has)

choices_have : (kinds : List Kind) (cells : List (List Value)) → HaveKinds kinds cells → All (HaveKinds kinds) (choices (map key_cells cells))
choices_have [] [] have = All-cons (HaveKinds []) [] [] tt (All-nil (HaveKinds []))
choices_have [] (cell ∷ cells) have = absurd have
choices_have (kind ∷ kinds) [] have = absurd have
choices_have (kind ∷ kinds) (cell ∷ cells) have =
    let more : List Key = choices (map key_cells cells) in
    let rest = choices_have kinds cells have.1 in
    all_flat (Has kind) (HaveKinds (kind ∷ kinds)) (λ (item : List Value). map (λ (key : Key). item ∷ key) more)
    (λ item has. All-map (HaveKinds (kind ∷ kinds)) (λ (key : Key). item ∷ key) more (All-weaker (HaveKinds kinds) (λ (key : Key). HaveKinds (kind ∷ kinds) (item ∷ key)) (λ key fits. (has, fits)) more rest))
    (key_cells cell) (key_cells_have kind cell have.0)

all_distinct : {Item : Type 0} (P : Item → Type 0) (same : Item → Item → Bool) (items : List Item) → All P items → All P (distinct_of same items)
all_distinct P same [] all = all
all_distinct {Item} P same (item ∷ items) all =
    All-cons P item _ (All-head P item items all)
    (All-filter (λ (other : Item). not (same item other)) P (distinct_of same items) (all_distinct P same items (All-tail P item items all)))

groups_have : {Group : Type 0} (kind_of : Group → Kind) (groups : List Group) (read : List Kind) (entries : List Entry) → All (EntryHas (map kind_of groups) read) entries
    → All (HaveKinds (map kind_of groups)) (keys_of_groups (length groups) entries)
groups_have kind_of [] read entries all = All-cons (HaveKinds []) [] [] tt (All-nil (HaveKinds []))
groups_have kind_of (group ∷ groups) read entries all =
    let keyed : List Kind = map kind_of (group ∷ groups) in
    all_distinct (HaveKinds keyed) same_key (flat_map keys_of_entry entries)
    (all_flat (EntryHas keyed read) (HaveKinds keyed) keys_of_entry (λ (entry : Entry) has. choices_have keyed entry.keys has.keys) entries all)

-- the row of a group --------------------------------------------------------------------------------------------------------------------

zip_append : (kinds more : List Kind) (cells rest : List (List Value)) → HaveKinds kinds cells → HaveKinds more rest → HaveKinds (kinds ++ more) (cells ++ rest)
zip_append [] more [] rest first second = second
zip_append [] more (cell ∷ cells) rest first second = absurd first
zip_append (kind ∷ kinds) more [] rest first second = absurd first
zip_append (kind ∷ kinds) more (cell ∷ cells) rest first second = (first.0, zip_append kinds more cells rest first.1 second)

-- columns of these numbers, made with these kinds
abbrev made_of : List ColId → List Kind → List MadeColumn
made_of [] kinds = []
made_of (id ∷ ids) [] = []
made_of (id ∷ ids) (kind ∷ kinds) = made_as id kind ∷ made_of ids kinds

made_of-map : {Item : Type 0} (to : Item → ColId) (kind : Item → Kind) (items : List Item) (ids : List ColId) (kinds : List Kind)
    → made_of (map to items ++ ids) (map kind items ++ kinds) ≡ map (λ (item : Item). made_as (to item) (kind item)) items ++ made_of ids kinds
made_of-map to kind [] ids kinds = refl
made_of-map to kind (item ∷ items) ids kinds = ap (λ (rest : List MadeColumn). made_as (to item) (kind item) ∷ rest) (made_of-map to kind items ids kinds)

made_of-all : {Item : Type 0} (to : Item → ColId) (kind : Item → Kind) (items : List Item) → made_of (map to items) (map kind items) ≡ map (λ (item : Item). made_as (to item) (kind item)) items
made_of-all to kind [] = refl
made_of-all to kind (item ∷ items) = ap (λ (rest : List MadeColumn). made_as (to item) (kind item) ∷ rest) (made_of-all to kind items)

abbrev number_of_column : ColId → ℕ
number_of_column id = id.0

abbrev same_number : ℕ → ℕ → Bool
same_number this that = this == that

new_among : (id : ℕ) (ids : List ColId) (kinds : List Kind) → AllByRecursion (λ other. id == other ≡ false) (map number_of_column ids) → All (λ (column : MadeColumn). id == column.id ≡ false) (made_of ids kinds)
new_among id [] kinds all = All-nil (λ (column : MadeColumn). id == column.id ≡ false)
new_among id (one ∷ ids) [] all = All-nil (λ (column : MadeColumn). id == column.id ≡ false)
new_among id (one ∷ ids) (kind ∷ kinds) all = All-cons (λ (column : MadeColumn). id == column.id ≡ false) (made_as one kind) (made_of ids kinds) all.0 (new_among id ids kinds all.1)

columns_have : (ids : List ColId) (kinds : List Kind) (cells : List (List Value)) → IsDistinct same_number (map number_of_column ids) → HaveKinds kinds cells → RowHas (made_of ids kinds) (row_of_columns ids cells)
columns_have [] kinds cells once have = All-nil (HasColumn (row_of_columns [] cells))
columns_have (id ∷ ids) [] [] once have = All-nil (HasColumn (row_of_columns (id ∷ ids) []))
columns_have (id ∷ ids) [] (cell ∷ cells) once have = absurd have
columns_have (id ∷ ids) (kind ∷ kinds) [] once have = absurd have
columns_have (id ∷ ids) (kind ∷ kinds) (cell ∷ cells) once have =
    has_new (made_of ids kinds) id kind (row_of_columns ids cells) cell
    (new_among id.0 ids kinds (IsDistinct-head same_number id.0 (map number_of_column ids) once)) have.0
    (columns_have ids kinds cells (IsDistinct-tail same_number id.0 (map number_of_column ids) once) have.1)

-- Stats ----------------------------------------------------------------------------------------------------------------------------------

module _ (bounds : Bounds) (made : List MadeColumn) where
  keys_have : (groups : List GroupColumn) → All (λ (group : GroupColumn). IsMade made group.id) groups → (row : NumberedRow) → RowHas made row
      → HaveKinds (map (group_kind made) groups) (map (λ (group : GroupColumn). row group.id.0) groups)
  keys_have [] all row has = tt
  keys_have (group ∷ groups) all row has =
      let P : GroupColumn → Type 0 = λ group. IsMade made group.id in
      (made_has made group.id row (All-head P group groups all) has, keys_have groups (All-tail P group groups all) row has)

  input_has : (function : AggFunction) (input : Option ColId) → InputStands made function input → (row : NumberedRow) → RowHas made row → Has (input_kind made input) (input_cell row input)
  input_has function None stands row has = refl
  input_has CountRows (Some id) stands row has = absurd cc
  input_has Count (Some id) stands row has = made_has made id row stands.0 has
  input_has CountDistinct (Some id) stands row has = made_has made id row stands.0 has
  input_has Sum (Some id) stands row has = made_has made id row stands.0 has
  input_has Min (Some id) stands row has = made_has made id row stands.0 has
  input_has Max (Some id) stands row has = made_has made id row stands.0 has
  input_has Values (Some id) stands row has = made_has made id row stands.0 has

  inputs_have : (aggregates : List Aggregate) → All (AggregateStands bounds made) aggregates → (row : NumberedRow) → RowHas made row
      → HaveKinds (map (read_kind made) aggregates) (map (λ (aggregate : Aggregate). input_cell row aggregate.input) aggregates)
  inputs_have [] all row has = tt
  inputs_have (aggregate ∷ aggregates) all row has = (
    input_has aggregate.function aggregate.input (All-head (AggregateStands bounds made) aggregate aggregates all).input row has,
    inputs_have aggregates (All-tail (AggregateStands bounds made) aggregate aggregates all) row has,
  )

  module _ (aggregates : List Aggregate) (groups : List GroupColumn) (stands : StatsStand bounds made aggregates groups) where
    abbrev keyed : List Kind
    keyed = map (group_kind made) groups

    abbrev read : List Kind
    read = map (read_kind made) aggregates

    abbrev kinds : List Kind
    kinds = map (given_kind made) aggregates ++ keyed

    columns_same : made_of (stats_columns aggregates groups) kinds ≡ stats_made made aggregates groups
    columns_same =
        made_of-map (λ (aggregate : Aggregate). aggregate.to) (given_kind made) aggregates (map (λ (group : GroupColumn). group.to) groups) keyed
        ∙ ap (λ (rest : List MadeColumn). map (λ (aggregate : Aggregate). made_as aggregate.to (given_kind made aggregate)) aggregates ++ rest)
        (made_of-all (λ (group : GroupColumn). group.to) (group_kind made) groups)

    group_has : (entries : List Entry) → All (EntryHas keyed read) entries → (key : Key) → HaveKinds keyed key → RowHas (stats_made made aggregates groups) (stats_row aggregates groups (cells_of_group aggregates entries key))
    group_has entries all key has =
        let own = All-filter (λ (entry : Entry). list_any (same_key key) (keys_of_entry entry)) (EntryHas keyed read) entries all in
        subst (λ (columns : List MadeColumn). RowHas columns (stats_row aggregates groups (cells_of_group aggregates entries key))) columns_same
        (columns_have (stats_columns aggregates groups) kinds (cells_of_group aggregates entries key) stands.once
        (zip_append (map (given_kind made) aggregates) keyed (map (λ (one : Given). one.cell) (aggregates_at aggregates entries key)) key
        (aggregates_have made keyed read 0 aggregates refl (entries_of_key key entries) own) has))

    pub stats_kinds : (rows : List NumberedRow) → All (RowHas made) rows → All (RowHas (stats_made made aggregates groups)) (stats_rows aggregates groups rows)
    stats_kinds rows has =
        let entries : List Entry = entries_of aggregates groups rows in
        let all : All (EntryHas keyed read) entries =
        All-map (EntryHas keyed read) (entry_of aggregates groups) rows
        (All-weaker (RowHas made) (λ (row : NumberedRow). EntryHas keyed read (entry_of aggregates groups row))
        (λ row own. record { keys = keys_have groups stands.keys row own; inputs = inputs_have aggregates stands.stand row own }) rows has) in
        let keys : List Key = keys_of_groups (length groups) entries in
        All-map (RowHas (stats_made made aggregates groups)) (stats_row aggregates groups) (map (cells_of_group aggregates entries) keys)
        (All-map (λ (cells : List (List Value)). RowHas (stats_made made aggregates groups) (stats_row aggregates groups cells)) (cells_of_group aggregates entries) keys
        (All-weaker (HaveKinds keyed) (λ (key : Key). RowHas (stats_made made aggregates groups) (stats_row aggregates groups (cells_of_group aggregates entries key)))
        (group_has entries all) keys (groups_have (group_kind made) groups read entries all)))
