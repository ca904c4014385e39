-- STATS does to rows of names what its steps do to rows of numbers.
use Rattle.std.proofs.Common.{◌≡◌, ℕ, suc, ◌+◌, List, [], ◌∷◌, ◌++◌, map, length, refl, ap, sym, subst, ◌∙◌, append_assoc, arith}
use Rattle.std.specs.List.{flat_map, AllByRecursion}
use Rattle.std.proofs.lemmas.List.{map-id, length-map}
use Rattle.std.proofs.lemmas.List.Elements.{All-nil}
use Rattle.esql_types.specs.declared.cause.Failure.{Failure}
use Rattle.esql_types.specs.declared.value.Value.{Value}
use Rattle.esql_ast.specs.declared.query.Field.{Field}
use Rattle.esql_ast.specs.declared.query.StatsField.{StatsField}
use Rattle.esql_plan.specs.declared.plan.OutColumn.{OutColumn}
use Rattle.esql_plan.specs.declared.step.Aggregate.{Aggregate}
use Rattle.esql_plan.specs.declared.step.GroupColumn.{GroupColumn}
use Rattle.esql_plan.specs.declared.step.Step.TheVariants as step
use Rattle.esql_plan.specs.Rules.{Given}
use Rattle.esql_plan.specs.Values.{NumberedRow}
use Rattle.plan_semantics.specs.Groups.{Key, Entry, aggregates_at, cells_of_group, rows_of_groups, failures_given, failures_of_groups}
use Rattle.plan_semantics.specs.Stats.{entry_of, entries_of, stats_row, row_of_columns}
use Rattle.plan_semantics.specs.Steps.{rows_after, failures_after}
use Rattle.plan_semantics.proofs.Splits.{rows_after-append}
use Rattle.plan_semantics.specs.Tables.{CatalogHeld}
use Rattle.row_semantics.specs.Rows.{Row}
use Rattle.query_semantics.specs.Named.{named_row}
use Rattle.query_semantics.specs.RowValues.{value_in_row, failures_of_expr}
use Rattle.query_semantics.specs.Stats.{keys_of_rows, rows_of_key, value_of_stats, put_fields, put_key, row_of_key, rows_of_stats, failures_before, failures_in_group, failures_of_stats}
use Rattle.query_semantics.specs.Writings.{Writing, write_input}
use Rattle.query_semantics.specs.WrittenStats.{CallInput, GroupInput, write_all_before, all_inputs, write_groups, group_inputs, aggregates_from, groups_from, write_grouping, write_stats_fields, put_groups, write_stats}
use Rattle.query_semantics.proofs.Named.{IsBelow}
use Rattle.query_semantics.proofs.Squares.{map_map, map_same, flat_map_same}
use Rattle.written_laws.proofs.Inputs.{failures_after-push}
use Rattle.written_laws.proofs.Stages.{Stage}
use Rattle.written_laws.proofs.Standing.{Stands}
use Rattle.written_laws.proofs.StatsBehind.{Behind, Begins, cell_given, fields_behind, key_named, groups_below}
use Rattle.written_laws.proofs.StatsGroups.{IsWhole, gives, entry_named, entry_is, keys_named, keys_long, inputs_long, group_named, group_fails}
use Rattle.written_laws.proofs.StatsInputs.{calls_in_fields, HasAllBefore, fields_stage, groups_stage}
use Rattle.written_laws.proofs.StatsRows.{ids_from, columns_are, CellsAt, at_kept, front_at, back_at, columns_null}

map_each : {A B : Type 0} (P : A → Type 0) (f g : A → B) → ((x : A) → P x → f x ≡ g x) → (xs : List A) → AllByRecursion P xs → map f xs ≡ map g xs
map_each P f g same [] all = refl
map_each P f g same (x ∷ xs) all = λ i. same x all.0 i ∷ map_each P f g same xs all.1 i

groups_long : (groups : List Field) (writing : Writing) → length (group_inputs groups writing) ≡ length groups
groups_long [] writing = refl
groups_long (group ∷ groups) writing = ap (λ (n : ℕ). suc n) (groups_long groups (write_input writing group.expr))

module _ (held : CatalogHeld) (start : List NumberedRow) (rows : List Row) (failures : List Failure) (writing : Writing) (stands : Stands held start rows failures writing)
    (fields : List StatsField) (groups : List Field) (whole : AllByRecursion IsWhole (calls_in_fields fields)) where
  abbrev so_far : List NumberedRow
  so_far = rows_after held writing.steps start

  abbrev named : NumberedRow → Row
  named = named_row writing.visible

  abbrev with_arguments : Writing
  with_arguments = write_all_before fields writing

  abbrev with_inputs : Writing
  with_inputs = write_groups groups with_arguments

  abbrev calls : List CallInput
  calls = all_inputs fields writing

  abbrev inputs : List GroupInput
  inputs = group_inputs groups with_arguments

  abbrev low : ℕ
  low = with_inputs.next

  abbrev second : ℕ
  second = low + length calls

  abbrev aggregates : List Aggregate
  aggregates = aggregates_from low calls

  abbrev columns : List GroupColumn
  columns = groups_from second inputs

  abbrev grouping : Writing
  grouping = write_grouping calls inputs with_inputs

  abbrev keys : List Key
  keys = keys_of_rows groups rows

  abbrev rows_of : Key → List Row
  rows_of key = rows_of_key groups key rows

  -- Inputs: each row becomes one that has them ---------------------------------------------------------------------------------

  abbrev failures_of_inputs : List Row → List Failure
  failures_of_inputs these =
      (failures ++ flat_map (λ stats. failures_before stats these) fields) ++ flat_map (λ (group : Field). failures_of_expr group.expr these) groups

  begun : Stage held start writing.visible so_far failures (λ row later. Unit {0}) writing
  begun = record {
    become = λ row. row;
    rows = sym (map-id so_far);
    failures_are = sym stands.failures_are;
    seen = λ row. refl;
    has = λ row later same. tt;
    visible_is = refl;
    below = stands.below;
  }

  abbrev HasArguments : Row → NumberedRow → Type 0
  HasArguments row later = Unit {0} × HasAllBefore held start writing.visible so_far fields writing row later

  abbrev HasInputs : Row → NumberedRow → Type 0
  HasInputs row later =
      HasArguments row later × (map (λ (input : GroupInput). later input.id.0) inputs ≡ map (λ (group : Field). (value_in_row group.expr row).cell) groups)

  staged : Stage held start writing.visible so_far (failures_of_inputs (map named so_far)) HasInputs with_inputs
  staged =
      groups_stage held start writing.visible so_far groups (failures ++ flat_map (λ stats. failures_before stats (map named so_far)) fields) HasArguments with_arguments
      (fields_stage held start writing.visible so_far fields failures (λ row later. Unit {0}) writing begun)

  entries_are : entries_of aggregates columns (rows_after held with_inputs.steps start) ≡ map (entry_named fields groups) rows
  entries_are =
      let stage : Stage held start writing.visible so_far (failures_of_inputs (map named so_far)) HasInputs with_inputs = staged in
      let entry_at : (row : NumberedRow) → entry_of aggregates columns (stage.become row) ≡ entry_named fields groups (named row) = λ row.
      let has = stage.has row (stage.become row) (λ id less. refl) in
      entry_is fields groups writing with_arguments low second (named row) (stage.become row) has.0.1 has.1 in
      ap (entries_of aggregates columns) stage.rows
      ∙ map_map (entry_of aggregates columns) stage.become so_far
      ∙ map_same (λ row. entry_of aggregates columns (stage.become row)) (λ row. entry_named fields groups (named row)) entry_at so_far
      ∙ sym (map_map (entry_named fields groups) named so_far)
      ∙ ap (map (entry_named fields groups)) (sym stands.rows_are)

  -- Groups -----------------------------------------------------------------------------------------------------------------------

  abbrev cells_of_calls : Key → List (List Value)
  cells_of_calls key = map (cell_given (rows_of key)) (calls_in_fields fields)

  -- the row of a group
  abbrev first : Key → NumberedRow
  first key = row_of_columns (ids_from low (length calls) ++ ids_from second (length inputs)) (cells_of_calls key ++ key)

  first_is : (key : Key) → stats_row aggregates columns (cells_of_group aggregates (map (entry_named fields groups) rows) key) ≡ first key
  first_is key =
      let cells = group_named fields groups writing low rows whole key
      ∙ ap (λ (these : List (List Value)). these ++ key) (map_map (λ (one : Given). one.cell) (gives (rows_of key)) (calls_in_fields fields)) in
      λ i. row_of_columns (columns_are low second calls inputs i) (cells i)

  grouped : rows_after held grouping.steps start ≡ map first keys
  grouped =
      let entries : List Entry = map (entry_named fields groups) rows in
      rows_after-append held with_inputs.steps (step.Stats aggregates columns ∷ []) start
      ∙ ap (λ (these : List Entry). map (stats_row aggregates columns) (rows_of_groups (length columns) aggregates these)) entries_are
      ∙ map_map (stats_row aggregates columns) (cells_of_group aggregates entries) _
      ∙ ap (map (λ key. stats_row aggregates columns (cells_of_group aggregates entries key))) (keys_named fields groups with_arguments second rows)
      ∙ map_same (λ key. stats_row aggregates columns (cells_of_group aggregates entries key)) first first_is keys

  abbrev failures_of_calls : List Failure
  failures_of_calls = flat_map (λ key. flat_map (λ stats. failures_in_group stats (rows_of key)) fields) keys

  grouping_fails : failures_after held grouping.steps start ≡ failures_of_inputs rows ++ failures_of_calls
  grouping_fails =
      let stage : Stage held start writing.visible so_far (failures_of_inputs (map named so_far)) HasInputs with_inputs = staged in
      let entries : List Entry = map (entry_named fields groups) rows in
      failures_after-push held with_inputs.steps (step.Stats aggregates columns) start
      ∙ (λ i. (stage.failures_are ∙ ap failures_of_inputs (sym stands.rows_are)) i ++ failures_of_groups (length columns) aggregates (entries_are i))
      ∙ ap (λ (these : List Failure). failures_of_inputs rows ++ these)
      (ap (flat_map (λ key. failures_given aggregates (aggregates_at aggregates entries key))) (keys_named fields groups with_arguments second rows)
      ∙ flat_map_same (λ key. failures_given aggregates (aggregates_at aggregates entries key)) (λ key. flat_map (λ stats. failures_in_group stats (rows_of key)) fields)
      (group_fails fields groups writing low rows whole) keys)

  -- Behind the groups --------------------------------------------------------------------------------------------------------------

  calls_long : (key : Key) → length (cells_of_calls key) ≡ length calls
  calls_long key = length-map (calls_in_fields fields) (cell_given (rows_of key)) ∙ sym (inputs_long fields writing)

  calls_at : (key : Key) → CellsAt grouping.next (first key) low (cells_of_calls key)
  calls_at key =
      let long = calls_long key in
      subst (λ (n : ℕ). CellsAt grouping.next (row_of_columns (ids_from low n ++ ids_from second (length inputs)) (cells_of_calls key ++ key)) low (cells_of_calls key)) long
      (front_at grouping.next (cells_of_calls key) key low (ids_from second (length inputs)) (omega (arith, long)))

  key_at : (key : Key) → length key ≡ length groups → CellsAt grouping.next (first key) second key
  key_at key is =
      let long = calls_long key in
      let own : length key ≡ length inputs = is ∙ sym (groups_long groups with_arguments) in
      let cells : List (List Value) = cells_of_calls key ++ key in
      subst (λ (n : ℕ). CellsAt grouping.next (row_of_columns (ids_from low (length calls) ++ ids_from second n) cells) second key) own
      (subst (λ (n : ℕ). CellsAt grouping.next (row_of_columns (ids_from low n ++ ids_from (low + n) (length key)) cells) (low + n) key) long
      (back_at grouping.next (cells_of_calls key) key low (omega (arith, long, own))))

  begins : Begins held start keys low grouping.next first writing.visible rows_of
  begins =
      let stage : Stage held start writing.visible so_far (failures_of_inputs (map named so_far)) HasInputs with_inputs = staged in
      record {
        null = λ key. columns_null low low second (length calls) (length inputs) (cells_of_calls key ++ key) (omega arith) (omega arith);
        before_below = stage.below;
        low_next = omega arith;
      }

  abbrev AreBehind : (Key → Row) → List Failure → Writing → Type 0
  AreBehind names fails after = Behind held start keys low grouping.next first writing.visible rows_of names fails after

  grouping_behind : AreBehind (λ key. []) (failures_of_inputs rows ++ failures_of_calls) grouping
  grouping_behind = record {
    become = first;
    rows = grouped;
    failures_are = grouping_fails;
    same = λ key id less. refl;
    named = λ key. refl;
    below = All-nil (IsBelow grouping.next);
    later = omega arith;
  }

  module _ (text : List ℕ) where
    abbrev after : Writing
    after = write_stats_fields text writing.visible low fields grouping

    abbrev failures_of_values : List Failure
    failures_of_values = flat_map (λ stats. flat_map (λ key. (value_of_stats stats (rows_of key)).failures) keys) fields

    after_behind : AreBehind (λ key. put_fields text fields (rows_of key) []) ((failures_of_inputs rows ++ failures_of_calls) ++ failures_of_values) after
    after_behind =
        fields_behind held start keys low grouping.next first writing.visible rows_of begins text fields low (λ key. []) (failures_of_inputs rows ++ failures_of_calls) grouping grouping_behind calls_at

    abbrev shown : List OutColumn
    shown = put_groups text second groups inputs after.visible

    row_is : (behind : AreBehind (λ key. put_fields text fields (rows_of key) []) ((failures_of_inputs rows ++ failures_of_calls) ++ failures_of_values) after) (key : Key)
        → length key ≡ length groups → row_of_key text fields groups rows key ≡ named_row shown (behind.become key)
    row_is behind key is =
        ap (put_key text groups key) (sym (behind.named key))
        ∙ key_named text grouping.next groups with_arguments second after.visible key (behind.become key) is
        (at_kept grouping.next (first key) (behind.become key) second key (behind.same key) (key_at key is))

    pub stats_stands : Stands held start (rows_of_stats text fields groups rows) (failures ++ failures_of_stats fields groups rows) (write_stats text fields groups writing)
    stats_stands =
        let behind : AreBehind (λ key. put_fields text fields (rows_of key) []) ((failures_of_inputs rows ++ failures_of_calls) ++ failures_of_values) after = after_behind in
        let later = behind.later in
        let of_fields : List Failure = flat_map (λ stats. failures_before stats rows) fields in
        let of_groups : List Failure = flat_map (λ (group : Field). failures_of_expr group.expr rows) groups in
        record {
          rows_are = map_each (λ (key : Key). length key ≡ length groups) (row_of_key text fields groups rows) (λ key. named_row shown (behind.become key)) (row_is behind) keys (keys_long groups rows)
              ∙ sym (map_map (named_row shown) behind.become keys)
              ∙ ap (map (named_row shown)) (sym behind.rows);
          failures_are = sym (behind.failures_are
              ∙ append_assoc (failures_of_inputs rows) failures_of_calls failures_of_values
              ∙ append_assoc (failures ++ of_fields) of_groups (failures_of_calls ++ failures_of_values)
              ∙ append_assoc failures of_fields (of_groups ++ (failures_of_calls ++ failures_of_values)));
          below = groups_below text after.next groups inputs second after.visible (omega (arith, later)) behind.below;
        }
