-- Behind the step that makes groups: the fields of STATS in turn, and what rows are grouped by, on the row of each group.
use Rattle.std.proofs.Common.{◌≡◌, ℕ, ◌+◌, ◌<◌, ◌≤◌, Bool, true, false, not, cond, List, [], ◌∷◌, ◌++◌, map, filter, length, Option, Some, None, refl, ap, sym, subst, ◌∙◌, append_assoc, arith}
use Rattle.std.specs.List.{flat_map}
use Rattle.std.specs.Str.{bytes_eq}
use Rattle.std.proofs.lemmas.List.{append-nil, map-append, length-map}
use Rattle.std.proofs.lemmas.List.Elements.{All-filter, All-push, All-head, All-tail, All-weaker}
use Rattle.esql_types.specs.declared.cause.Failure.{Failure}
use Rattle.esql_types.specs.declared.names.ColId.{ColId}
use Rattle.esql_types.specs.declared.value.Kind.{Kind}
use Rattle.esql_types.specs.declared.value.Value.{Value}
use Rattle.esql_ast.specs.declared.query.Condition.{Condition}
use Rattle.esql_ast.specs.declared.query.Field.{Field}
use Rattle.esql_ast.specs.declared.query.StatsField.{StatsField}
use Rattle.esql_plan.specs.declared.plan.OutColumn.{OutColumn}
use Rattle.esql_plan.specs.declared.step.Step.{Step}
use Rattle.esql_plan.specs.declared.step.Step.TheVariants as step
use Rattle.esql_plan.specs.declared.typed.TypedExpr.{TypedExpr}
use Rattle.esql_plan.specs.Values.{Valued, NumberedRow, silent, value_of_typed}
use Rattle.plan_semantics.specs.Groups.{Key}
use Rattle.plan_semantics.specs.Steps.{step_fails, rows_after, failures_after}
use Rattle.plan_semantics.specs.Tables.{CatalogHeld, with_cell}
use Rattle.plan_semantics.proofs.Splits.{rows_after-append}
use Rattle.row_semantics.specs.Fields.{name_of_field}
use Rattle.row_semantics.specs.Meanings.{Given}
use Rattle.row_semantics.specs.Rows.{Row, cell_at, put}
use Rattle.row_semantics.specs.declared.row.NamedCell.{NamedCell}
use Rattle.row_semantics.specs.Typed.{Visible}
use Rattle.query_semantics.specs.Calls.{AggregateCall, calls_of}
use Rattle.query_semantics.specs.Named.{named_cell, named_row, call_cell, given_of}
use Rattle.query_semantics.specs.Stats.{cells_of_calls, name_of_stats, value_of_stats, put_fields, put_key}
use Rattle.query_semantics.specs.Writings.{Writing, column_at, put_visible, typed_in, column_of_typed, write_input, input_by}
use Rattle.query_semantics.specs.WrittenStats.{call_columns, field_typed, write_field_by, write_stats_field, write_stats_fields, put_groups, GroupInput, group_inputs}
use Rattle.query_semantics.proofs.Inputs.{column_valued}
use Rattle.query_semantics.proofs.Named.{IsBelow, AllBelow, IsSameBelow, named_put, below_put, same_put}
use Rattle.query_semantics.proofs.SameGiven.{value_same}
use Rattle.query_semantics.proofs.Squares.{map_map, filter_square, flat_map_square, flat_map_none, flat_map_one}
use Rattle.query_semantics.proofs.Valued.{expr_valued_on}
use Rattle.written_laws.proofs.FieldColumns.{CallsBelow, typed_below}
use Rattle.written_laws.proofs.Inputs.{failures_after-push}
use Rattle.written_laws.proofs.StatsGroups.{gives}
use Rattle.written_laws.proofs.StatsInputs.{Counted, counted_by, calls_in_field, calls_in_fields}
use Rattle.written_laws.proofs.StatsRows.{CellsAt, at_kept, at_split}

-- A column that is there already ---------------------------------------------------------------------------------------------

abbrev is_other : List ℕ → OutColumn → Bool
is_other name column = not (bytes_eq column.name name)

-- a column that has a cell already, under a name
named_seen : (visible : List OutColumn) (row : NumberedRow) (name : List ℕ) (kind : Kind) (id : ℕ) (cell : List Value) → row id ≡ cell
    → put (named_row visible row) name cell ≡ named_row (put_visible visible name kind id) row
named_seen visible row name kind id cell is =
    let kept : List OutColumn = filter (is_other name) visible in
    ap (λ (these : Row). these ++ record { name = name; cell = cell } ∷ []) (filter_square (λ (named : NamedCell). not (bytes_eq named.name name)) (named_cell row) (is_other name) (λ column. refl) visible)
    ∙ (λ i. named_row kept row ++ record { name = name; cell = sym is i } ∷ [])
    ∙ sym (map-append (named_cell row) kept (record { name = name; kind = kind; id = column_at id } ∷ []))

below_seen : (next : ℕ) (visible : List OutColumn) (name : List ℕ) (kind : Kind) (id : ℕ) → AllBelow next visible → id < next → AllBelow next (put_visible visible name kind id)
below_seen next visible name kind id below less =
    All-push (IsBelow next) (filter (is_other name) visible) (record { name = name; kind = kind; id = column_at id }) (All-filter (is_other name) (IsBelow next) visible below) less

-- What a field is evaluated on -------------------------------------------------------------------------------------------------

-- no column that was made before is there
cells_null : (low : ℕ) (before : List OutColumn) (row : NumberedRow) → ((id : ℕ) → id < low → row id ≡ []) → AllBelow low before → (name : List ℕ) → cell_at (named_row before row) name ≡ []
cells_null low [] row null below name = refl
cells_null low (column ∷ before) row null below name =
    elim (bytes_eq column.name name) as (λ same. cond same (row column.id.0) (cell_at (named_row before row) name) ≡ [])
    [ true ↦ null column.id.0 (All-head (IsBelow low) column before below) | false ↦ cells_null low before row null (All-tail (IsBelow low) column before below) name ]

abbrev pub cell_given : List Row → Counted → List Value
cell_given rows counted = (gives rows counted).cell

-- the columns of the calls of a field have what these give
calls_given : (next : ℕ) (condition : Option Condition) (rows : List Row) (calls : List AggregateCall) (number : ℕ) (row : NumberedRow)
    → CellsAt next row number (map (cell_given rows) (map (counted_by condition) calls)) → map (call_cell row) (call_columns number calls) ≡ cells_of_calls condition calls rows
calls_given next condition rows [] number row at = refl
calls_given next condition rows (call ∷ calls) number row at =
    λ i. record { node = call.node; cell = at.1 i } ∷ calls_given next condition rows calls (number + 1) row at.2 i

calls_below : (next last : ℕ) (condition : Option Condition) (rows : List Row) (calls : List AggregateCall) (number : ℕ) (row : NumberedRow) → next ≤ last
    → CellsAt next row number (map (cell_given rows) (map (counted_by condition) calls)) → CallsBelow last (call_columns number calls)
calls_below next last condition rows [] number row less at = tt
calls_below next last condition rows (call ∷ calls) number row less at =
    let own = at.0 in
    (omega (arith, own, less), calls_below next last condition rows calls (number + 1) row less at.2)

-- the cells of the calls of a field stand before those of the fields behind it
field_split : (next : ℕ) (row : NumberedRow) (rows : List Row) (stats : StatsField) (fields : List StatsField) (number : ℕ)
    → CellsAt next row number (map (cell_given rows) (calls_in_fields (stats ∷ fields)))
    → CellsAt next row number (map (cell_given rows) (calls_in_field stats)) × CellsAt next row (number + length (calls_of stats.field.expr)) (map (cell_given rows) (calls_in_fields fields))
field_split next row rows stats fields number at =
    let calls : List AggregateCall = calls_of stats.field.expr in
    let these : List (List Value) = map (cell_given rows) (calls_in_field stats) in
    let those : List (List Value) = map (cell_given rows) (calls_in_fields fields) in
    let long : length these ≡ length calls = length-map (calls_in_field stats) (cell_given rows) ∙ length-map calls (counted_by stats.condition) in
    let split = at_split next row number these those (subst (CellsAt next row number) (map-append (cell_given rows) (calls_in_field stats) (calls_in_fields fields)) at) in
    (split.0, subst (λ (n : ℕ). CellsAt next row (number + n) those) long split.1)

-- Fields ---------------------------------------------------------------------------------------------------------------------

module _ (held : CatalogHeld) (start : List NumberedRow) (keys : List Key) (low next : ℕ) (first : Key → NumberedRow) (before : List OutColumn) (rows_of : Key → List Row) where
  -- What is written on behind the groups: the rows of the groups, which keep the cells that the groups were made with, and what
  -- is seen of them.
  pub record Behind (names : Key → Row) (failures : List Failure) (writing : Writing) : Type 0 where
    pub become : Key → NumberedRow
    pub rows : rows_after held writing.steps start ≡ map become keys
    pub failures_are : failures_after held writing.steps start ≡ failures
    pub same : (key : Key) → IsSameBelow next (first key) (become key)
    pub named : (key : Key) → named_row writing.visible (become key) ≡ names key
    pub below : AllBelow writing.next writing.visible
    pub later : next ≤ writing.next

  -- the groups are made with null in each column that was made before
  pub record Begins : Type 0 where
    pub null : (key : Key) (id : ℕ) → id < low → first key id ≡ []
    pub before_below : AllBelow low before
    pub low_next : low ≤ next

  module _ (begins : Begins) (text : List ℕ) (stats : StatsField) (number : ℕ) (names : Key → Row) (failures : List Failure) (writing : Writing) (behind : Behind names failures writing)
      (at : (key : Key) → CellsAt next (first key) number (map (cell_given (rows_of key)) (calls_in_field stats))) where
    abbrev calls : List AggregateCall
    calls = calls_of stats.field.expr

    abbrev typed : TypedExpr
    typed = field_typed before number writing stats.field.expr

    abbrev name : List ℕ
    name = name_of_stats text stats

    -- the value of the field on the row of a group
    field_valued : (key : Key) → value_of_typed typed (behind.become key) ≡ value_of_stats stats (rows_of key)
    field_valued key =
        let row : NumberedRow = behind.become key in
        let visible : Visible = record { columns = before; calls = call_columns number calls } in
        let low_next = begins.low_next in
        let null : (id : ℕ) → id < low → row id ≡ [] = λ id less. behind.same key id (omega (arith, less, low_next)) ∙ begins.null key id less in
        let given : Given = record { row = []; calls = cells_of_calls stats.condition calls (rows_of key) } in
        expr_valued_on stats.field.expr visible _ _ row
        ∙ value_same stats.field.expr (given_of visible row) given (record {
          cells = cells_null low before row null begins.before_below;
          calls = calls_given next stats.condition (rows_of key) calls number row (at_kept next (first key) row number _ (behind.same key) (at key));
        })

    abbrev FieldBehind : Writing → Type 0
    FieldBehind after = Behind (λ key. put (names key) name (value_of_stats stats (rows_of key)).cell) (failures ++ flat_map (λ key. (value_of_stats stats (rows_of key)).failures) keys) after

    -- a field that is a column
    field_found : (id : ColId) → column_of_typed typed ≡ Some id → FieldBehind (record writing { visible = put_visible writing.visible name typed.kind id.0 })
    field_found id is =
        let low_next = begins.low_next in
        let later = behind.later in
        let silent_in : (key : Key) → value_of_stats stats (rows_of key) ≡ silent (behind.become key id.0) = λ key. sym (field_valued key) ∙ column_valued typed id is (behind.become key) in
        let less : id.0 < writing.next =
        typed_below stats.field.expr writing.next (record { columns = before; calls = call_columns number calls })
        (All-weaker (IsBelow low) (IsBelow writing.next) (λ column own. omega (arith, own, low_next, later)) before begins.before_below)
        (calls_below next writing.next stats.condition (rows_of []) calls number (first []) later (at [])) _ _ id is in
        record {
          become = behind.become;
          rows = behind.rows;
          failures_are = behind.failures_are
              ∙ sym (append-nil failures)
              ∙ ap (λ (these : List Failure). failures ++ these) (sym (flat_map_none (λ key. (value_of_stats stats (rows_of key)).failures) (λ key. ap (λ (this : Valued). this.failures) (silent_in key)) keys));
          same = behind.same;
          named = λ key.
              sym (named_seen writing.visible (behind.become key) name typed.kind id.0 (value_of_stats stats (rows_of key)).cell (ap (λ (this : Valued). this.cell) (sym (silent_in key))))
              ∙ ap (λ (these : Row). put these name (value_of_stats stats (rows_of key)).cell) (behind.named key);
          below = below_seen writing.next writing.visible name typed.kind id.0 behind.below less;
          later = behind.later;
        }

    -- any other field makes one
    field_made : FieldBehind (record (write_field_by None writing stats.field.expr typed) { visible = put_visible writing.visible name typed.kind writing.next })
    field_made =
        let new : Step = step.Eval (column_at writing.next) typed in
        let add : NumberedRow → NumberedRow = λ row. with_cell row writing.next (value_of_typed typed row).cell in
        let later = behind.later in
        record {
          become = λ key. add (behind.become key);
          rows = rows_after-append held writing.steps (new ∷ []) start
              ∙ flat_map_one add (rows_after held writing.steps start)
              ∙ ap (map add) behind.rows
              ∙ map_map add behind.become keys;
          failures_are = failures_after-push held writing.steps new start
              ∙ (λ i. behind.failures_are i ++ flat_map (step_fails new) (behind.rows i))
              ∙ ap (λ (these : List Failure). failures ++ these)
              (flat_map_square (step_fails new) behind.become (λ key. (value_of_stats stats (rows_of key)).failures) (λ key. ap (λ (this : Valued). this.failures) (field_valued key)) keys);
          same = λ key id less. same_put (behind.become key) writing.next (value_of_typed typed (behind.become key)).cell id (omega (arith, less, later)) ∙ behind.same key id less;
          named = λ key.
              sym (named_put writing.visible (behind.become key) name typed.kind writing.next (value_of_typed typed (behind.become key)).cell behind.below)
              ∙ (λ i. put (behind.named key i) name (field_valued key i).cell);
          below = below_put writing.visible name typed.kind writing.next behind.below;
          later = omega (arith, later);
        }

    pub field_behind : FieldBehind (write_stats_field text before number stats writing)
    field_behind = by_found (column_of_typed typed) refl
      where
        by_found : (found : Option ColId) → column_of_typed typed ≡ found
            → FieldBehind (record (write_field_by found writing stats.field.expr typed) { visible = put_visible writing.visible name typed.kind (input_by found writing.next).0 })
        by_found (Some id) is = field_found id is
        by_found None is = field_made

  -- fields in turn
  pub fields_behind : (begins : Begins) (text : List ℕ) (fields : List StatsField) (number : ℕ) (names : Key → Row) (failures : List Failure) (writing : Writing) → Behind names failures writing
      → ((key : Key) → CellsAt next (first key) number (map (cell_given (rows_of key)) (calls_in_fields fields)))
      → Behind (λ key. put_fields text fields (rows_of key) (names key)) (failures ++ flat_map (λ stats. flat_map (λ key. (value_of_stats stats (rows_of key)).failures) keys) fields)
      (write_stats_fields text before number fields writing)
  fields_behind begins text [] number names failures writing behind at = record {
    become = behind.become;
    rows = behind.rows;
    failures_are = behind.failures_are ∙ sym (append-nil failures);
    same = behind.same;
    named = behind.named;
    below = behind.below;
    later = behind.later;
  }
  fields_behind begins text (stats ∷ fields) number names failures writing behind at =
      let own : List Failure = flat_map (λ key. (value_of_stats stats (rows_of key)).failures) keys in
      let split = λ (key : Key). field_split next (first key) (rows_of key) stats fields number (at key) in
      let one = field_behind begins text stats number names failures writing behind (λ key. (split key).0) in
      let rest = fields_behind begins text fields (number + length (calls_of stats.field.expr)) (λ key. put (names key) (name_of_stats text stats) (value_of_stats stats (rows_of key)).cell) (failures ++ own)
      (write_stats_field text before number stats writing) one (λ key. (split key).1) in
      record {
        become = rest.become;
        rows = rest.rows;
        failures_are = rest.failures_are ∙ append_assoc failures own (flat_map (λ stats. flat_map (λ key. (value_of_stats stats (rows_of key)).failures) keys) fields);
        same = rest.same;
        named = rest.named;
        below = rest.below;
        later = rest.later;
      }

-- What rows are grouped by ---------------------------------------------------------------------------------------------------

-- a key under the names of its groups
pub key_named : (text : List ℕ) (next : ℕ) (groups : List Field) (writing : Writing) (number : ℕ) (visible : List OutColumn) (key : Key) (row : NumberedRow)
    → length key ≡ length groups → CellsAt next row number key → put_key text groups key (named_row visible row) ≡ named_row (put_groups text number groups (group_inputs groups writing) visible) row
key_named text next [] writing number visible key row long at = refl
key_named text next (group ∷ groups) writing number visible [] row long at = absurd (omega (arith, long))
key_named text next (group ∷ groups) writing number visible (cell ∷ key) row long at =
    let name : List ℕ = name_of_field text group in
    ap (put_key text groups key) (named_seen visible row name (typed_in writing group.expr).kind number cell at.1)
    ∙ key_named text next groups (write_input writing group.expr) (number + 1) (put_visible visible name (typed_in writing group.expr).kind number) key row (omega (arith, long)) at.2

pub groups_below : (text : List ℕ) (next : ℕ) (groups : List Field) (inputs : List GroupInput) (number : ℕ) (visible : List OutColumn)
    → number + length inputs ≤ next → AllBelow next visible → AllBelow next (put_groups text number groups inputs visible)
groups_below text next [] inputs number visible less below = below
groups_below text next (group ∷ groups) [] number visible less below = below
groups_below text next (group ∷ groups) (input ∷ inputs) number visible less below =
    groups_below text next groups inputs (number + 1) (put_visible visible (name_of_field text group) input.kind number) (omega (arith, less))
    (below_seen next visible (name_of_field text group) input.kind number below (omega (arith, less)))
