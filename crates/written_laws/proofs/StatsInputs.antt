-- What STATS reads of a row: its groups and the inputs of its aggregate calls, by names and by numbers.
use Rattle.std.proofs.Common.{◌≡◌, ℕ, Bool, true, false, cond, List, [], ◌∷◌, ◌++◌, map, filter, Option, Some, None, refl, ap, sym, ◌∙◌, append_assoc}
use Rattle.std.specs.List.{flat_map}
use Rattle.std.proofs.lemmas.List.{append-nil, map-append}
use Rattle.esql_types.specs.declared.cause.Failure.{Failure}
use Rattle.esql_types.specs.declared.names.NodeId.{NodeId}
use Rattle.esql_types.specs.declared.value.Kind.TheVariants as kind
use Rattle.esql_types.specs.declared.value.Value.{Value}
use Rattle.esql_types.specs.declared.value.Value.TheVariants.{Bool as Truth}
use Rattle.esql_ast.specs.declared.expr.Expr.{Expr}
use Rattle.esql_ast.specs.declared.query.Condition.{Condition}
use Rattle.esql_ast.specs.declared.query.Field.{Field}
use Rattle.esql_ast.specs.declared.query.StatsField.{StatsField}
use Rattle.esql_plan.specs.declared.function.Function.TheVariants as function
use Rattle.esql_plan.specs.declared.plan.OutColumn.{OutColumn}
use Rattle.esql_plan.specs.declared.typed.TypedExpr.{TypedExpr}
use Rattle.esql_plan.specs.declared.typed.TypedForm.TheVariants as form
use Rattle.esql_plan.specs.Exprs.{typed_at, constant_at}
use Rattle.esql_plan.specs.Values.{Valued, NumberedRow, silent, behind, applied, value_of_typed}
use Rattle.esql_plan.proofs.TypedFolds.{value_of_constant, value_of_column, value_of_call}
use Rattle.plan_semantics.specs.Stats.{input_cell}
use Rattle.plan_semantics.specs.Steps.{is_true, failures_of_condition}
use Rattle.plan_semantics.specs.Tables.{CatalogHeld}
use Rattle.row_semantics.specs.Rows.{Row}
use Rattle.query_semantics.specs.RowValues.{value_in_row, failures_of_expr}
use Rattle.query_semantics.specs.Calls.{AggregateCall, calls_of}
use Rattle.query_semantics.specs.Stats.{counted_rows, failures_of_argument, failures_of_arguments, failures_of_optional, failures_before}
use Rattle.query_semantics.specs.Writings.{Writing, column_at, typed_in, write_input, input_of}
use Rattle.query_semantics.specs.WrittenStats.{Flag, flag_typed, flagged_typed, write_flag, flag_of, write_call, call_input, CallInput, write_calls, inputs_of_calls, write_before, inputs_before, write_all_before, all_inputs, GroupInput, write_groups, group_inputs}
use Rattle.query_semantics.specs.Named.{named_row}
use Rattle.written_laws.proofs.Stages.{Stage, stage_as, made_stage, typed_valued, input_stage}

-- By names -------------------------------------------------------------------------------------------------------------

-- an aggregate call, with the condition of its field
pub record Counted : Type 0 where
  pub condition : Option Condition
  pub call : AggregateCall

abbrev pub counted_by : Option Condition → AggregateCall → Counted
counted_by condition call = record { condition = condition; call = call }

-- the calls of a field, and of fields
abbrev pub calls_in_field : StatsField → List Counted
calls_in_field stats = map (counted_by stats.condition) (calls_of stats.field.expr)

abbrev pub calls_in_fields : List StatsField → List Counted
calls_in_fields fields = flat_map calls_in_field fields

-- true where the condition is true, else null
abbrev pub flag_cell : Condition → Row → List Value
flag_cell condition row = cond (is_true (value_in_row condition.expr row).cell) (Truth true ∷ []) []

-- the value of an argument where the condition is true, else null
abbrev pub flagged_value : Condition → Expr → Row → Valued
flagged_value condition argument row = cond (is_true (value_in_row condition.expr row).cell) (value_in_row argument row) (silent [])

-- what a call reads of a row
abbrev pub cell_read : Option Condition → Option Expr → Row → List Value
cell_read None None row = []
cell_read (Some condition) None row = flag_cell condition row
cell_read None (Some argument) row = (value_in_row argument row).cell
cell_read (Some condition) (Some argument) row = (flagged_value condition argument row).cell

abbrev pub read_of : Row → Counted → List Value
read_of row counted = cell_read counted.condition counted.call.argument row

-- a filter of rows, as what is null on the others
pub flat_map_where : {A : Type 0} (of_value : Valued → List A) (test : Row → Bool) (valued : Row → Valued) → of_value (silent []) ≡ [] → (rows : List Row)
    → flat_map (λ row. of_value (cond (test row) (valued row) (silent []))) rows ≡ flat_map (λ row. of_value (valued row)) (filter test rows)
flat_map_where of_value test valued none [] = refl
flat_map_where of_value test valued none (row ∷ rows) =
    elim (test row) as (λ b. of_value (cond b (valued row) (silent [])) ++ flat_map (λ row. of_value (cond (test row) (valued row) (silent []))) rows
    ≡ flat_map (λ row. of_value (valued row)) (cond b (row ∷ filter test rows) (filter test rows))) [
      | true ↦ ap (λ these. of_value (valued row) ++ these) (flat_map_where of_value test valued none rows)
      | false ↦ ap (λ these. these ++ flat_map (λ row. of_value (cond (test row) (valued row) (silent []))) rows) none ∙ flat_map_where of_value test valued none rows
    ]

-- Conditions and arguments -------------------------------------------------------------------------------------------------

flag_either : (failures : List Failure) (truth : Bool) → behind failures (cond truth (silent (Truth true ∷ [])) (silent [])) ≡ record { cell = cond truth (Truth true ∷ []) []; failures = failures }
flag_either failures true = ap (λ (these : List Failure). record { cell = Truth true ∷ []; failures = these }) (append-nil failures)
flag_either failures false = ap (λ (these : List Failure). record { cell = []; failures = these }) (append-nil failures)

-- the value of a condition as a flag
flag_valued : (node : NodeId) (condition : TypedExpr) (row : NumberedRow)
    → value_of_typed (flag_typed node condition) row
    ≡ record { cell = cond (is_true (value_of_typed condition row).cell) (Truth true ∷ []) []; failures = failures_of_condition node (value_of_typed condition row) }
flag_valued node condition row =
    let constant : TypedExpr = constant_at node kind.Boolean (Truth true ∷ []) in
    value_of_call (flag_typed node condition) row function.Case (condition ∷ constant ∷ []) None refl
    ∙ ap (λ (this : Valued). applied function.Case node (value_of_typed condition row ∷ this ∷ [])) (value_of_constant constant row (Truth true ∷ []) refl)
    ∙ flag_either (failures_of_condition node (value_of_typed condition row)) (is_true (value_of_typed condition row).cell)

case_flagged : (node : NodeId) (truth : Bool) (value : Valued) → applied function.Case node (silent (cond truth (Truth true ∷ []) []) ∷ value ∷ []) ≡ cond truth value (silent [])
case_flagged node true value = refl
case_flagged node false value = refl

-- the value of an argument on a row whose flag is known
flagged_valued : (flag : Flag) (argument : TypedExpr) (row : NumberedRow) (truth : Bool) → row flag.id.0 ≡ cond truth (Truth true ∷ []) []
    → value_of_typed (flagged_typed flag argument) row ≡ cond truth (value_of_typed argument row) (silent [])
flagged_valued flag argument row truth is =
    let column : TypedExpr = typed_at flag.node kind.Boolean (form.Column flag.id) in
    value_of_call (flagged_typed flag argument) row function.Case (column ∷ argument ∷ []) None refl
    ∙ ap (λ (this : Valued). applied function.Case flag.node (this ∷ value_of_typed argument row ∷ [])) (value_of_column column row flag.id refl ∙ ap silent is)
    ∙ case_flagged flag.node truth (value_of_typed argument row)

module _ (held : CatalogHeld) (start : List NumberedRow) (visible : List OutColumn) (so_far : List NumberedRow) where
  abbrev seen_rows : List Row
  seen_rows = map (named_row visible) so_far

  abbrev Staged : List Failure → (Row → NumberedRow → Type 0) → Writing → Type 0
  Staged failures Has writing = Stage held start visible so_far failures Has writing

  -- a row has the flag of a condition in the column that was next
  abbrev HasFlag : Option Condition → ℕ → Row → NumberedRow → Type 0
  HasFlag None next row later = Unit {0}
  HasFlag (Some condition) next row later = later next ≡ flag_cell condition row

  flag_stage : (condition : Option Condition) (failures : List Failure) (Has : Row → NumberedRow → Type 0) (writing : Writing) → Staged failures Has writing
      → Staged (failures ++ failures_of_optional condition seen_rows) (λ row later. Has row later × HasFlag condition writing.next row later) (write_flag condition writing)
  flag_stage None failures Has writing stage =
      stage_as held start visible so_far failures (failures ++ []) Has (λ row later. Has row later × Unit {0}) writing (sym (append-nil failures)) (λ row later has. (has, tt)) stage
  flag_stage (Some condition) failures Has writing stage =
      let typed : TypedExpr = typed_in writing condition.expr in
      let valued : Row → Valued = λ row. record { cell = flag_cell condition row; failures = failures_of_condition condition.node (value_in_row condition.expr row) } in
      made_stage held start visible so_far failures Has writing stage condition.expr (flag_typed condition.node typed) valued
      (λ row. flag_valued condition.node typed (stage.become row)
      ∙ ap (λ (this : Valued). record { cell = cond (is_true this.cell) (Truth true ∷ []) []; failures = failures_of_condition condition.node this })
      (typed_valued held start visible so_far failures Has writing stage condition.expr row (stage.become row) (λ id less. refl)))

  -- a row has what a call reads
  abbrev HasRead : Option Condition → Option Expr → Option Flag → Writing → Row → NumberedRow → Type 0
  HasRead condition argument flag writing row later = input_cell later (call_input flag argument writing) ≡ cell_read condition argument row

  call_stage : (condition : Option Condition) (first : Writing) (argument : Option Expr) (failures : List Failure) (Has : Row → NumberedRow → Type 0) (writing : Writing)
      → ((row : Row) (later : NumberedRow) → Has row later → HasFlag condition first.next row later) → Staged failures Has writing
      → Staged (failures ++ failures_of_argument argument (counted_rows condition seen_rows)) (λ row later. Has row later × HasRead condition argument (flag_of condition first) writing row later)
      (write_call (flag_of condition first) argument writing)
  call_stage None first None failures Has writing flagged stage =
      stage_as held start visible so_far failures (failures ++ []) Has (λ row later. Has row later × HasRead None None None writing row later) writing (sym (append-nil failures)) (λ row later has. (has, refl)) stage
  call_stage (Some condition) first None failures Has writing flagged stage =
      stage_as held start visible so_far failures (failures ++ []) Has (λ row later. Has row later × HasRead (Some condition) None (flag_of (Some condition) first) writing row later) writing
      (sym (append-nil failures)) (λ row later has. (has, flagged row later has)) stage
  call_stage None first (Some argument) failures Has writing flagged stage = input_stage held start visible so_far failures Has writing stage argument
  call_stage (Some condition) first (Some argument) failures Has writing flagged stage =
      let flag : Flag = record { node = condition.node; id = column_at first.next } in
      let typed : TypedExpr = typed_in writing argument in
      let test : Row → Bool = λ row. is_true (value_in_row condition.expr row).cell in
      let after = made_stage held start visible so_far failures Has writing stage argument (flagged_typed flag typed) (flagged_value condition argument)
      (λ row. flagged_valued flag typed (stage.become row) (test (named_row visible row))
      (flagged (named_row visible row) (stage.become row) (stage.has row (stage.become row) (λ id less. refl)))
      ∙ ap (λ (this : Valued). cond (test (named_row visible row)) this (silent [])) (typed_valued held start visible so_far failures Has writing stage argument row (stage.become row) (λ id less. refl))) in
      stage_as held start visible so_far _ _ (λ row later. Has row later × (later writing.next ≡ (flagged_value condition argument row).cell)) _ _
      (ap (λ (these : List Failure). failures ++ these) (flat_map_where (λ (this : Valued). this.failures) test (value_in_row argument) refl seen_rows)) (λ row later has. has) after

  -- a row has what calls read
  abbrev HasReads : Option Condition → List AggregateCall → Option Flag → Writing → Row → NumberedRow → Type 0
  HasReads condition calls flag writing row later =
      map (λ (input : CallInput). input_cell later input.input) (inputs_of_calls flag calls writing) ≡ map (read_of row) (map (counted_by condition) calls)

  calls_stage : (condition : Option Condition) (first : Writing) (calls : List AggregateCall) (failures : List Failure) (Has : Row → NumberedRow → Type 0) (writing : Writing)
      → ((row : Row) (later : NumberedRow) → Has row later → HasFlag condition first.next row later) → Staged failures Has writing
      → Staged (failures ++ failures_of_arguments calls (counted_rows condition seen_rows)) (λ row later. Has row later × HasReads condition calls (flag_of condition first) writing row later)
      (write_calls (flag_of condition first) calls writing)
  calls_stage condition first [] failures Has writing flagged stage =
      stage_as held start visible so_far failures (failures ++ []) Has (λ row later. Has row later × HasReads condition [] (flag_of condition first) writing row later) writing
      (sym (append-nil failures)) (λ row later has. (has, refl)) stage
  calls_stage condition first (call ∷ calls) failures Has writing flagged stage =
      let flag : Option Flag = flag_of condition first in
      let rows : List Row = counted_rows condition seen_rows in
      let One : Row → NumberedRow → Type 0 = λ row later. Has row later × HasRead condition call.argument flag writing row later in
      let one = call_stage condition first call.argument failures Has writing flagged stage in
      let rest = calls_stage condition first calls (failures ++ failures_of_argument call.argument rows) One (write_call flag call.argument writing) (λ row later has. flagged row later has.0) one in
      stage_as held start visible so_far _ _ (λ row later. One row later × HasReads condition calls flag (write_call flag call.argument writing) row later) _ _
      (append_assoc failures (failures_of_argument call.argument rows) (failures_of_arguments calls rows))
      (λ row later has. (has.0.0, λ i. has.0.1 i ∷ has.1 i)) rest

  -- a field: its condition, then the arguments of its calls
  abbrev HasBefore : StatsField → Writing → Row → NumberedRow → Type 0
  HasBefore stats writing row later = map (λ (input : CallInput). input_cell later input.input) (inputs_before stats writing) ≡ map (read_of row) (calls_in_field stats)

  before_stage : (stats : StatsField) (failures : List Failure) (Has : Row → NumberedRow → Type 0) (writing : Writing) → Staged failures Has writing
      → Staged (failures ++ failures_before stats seen_rows) (λ row later. Has row later × HasBefore stats writing row later) (write_before stats writing)
  before_stage stats failures Has writing stage =
      let flag = flag_stage stats.condition failures Has writing stage in
      let Flagged : Row → NumberedRow → Type 0 = λ row later. Has row later × HasFlag stats.condition writing.next row later in
      let calls = calls_stage stats.condition writing (calls_of stats.field.expr) _ Flagged (write_flag stats.condition writing) (λ row later has. has.1) flag in
      stage_as held start visible so_far _ _ (λ row later. Flagged row later × HasBefore stats writing row later) _ _
      (append_assoc failures (failures_of_optional stats.condition seen_rows) (failures_of_arguments (calls_of stats.field.expr) (counted_rows stats.condition seen_rows)))
      (λ row later has. (has.0.0, has.1)) calls

  -- fields in turn
  abbrev pub HasAllBefore : List StatsField → Writing → Row → NumberedRow → Type 0
  HasAllBefore fields writing row later = map (λ (input : CallInput). input_cell later input.input) (all_inputs fields writing) ≡ map (read_of row) (calls_in_fields fields)

  pub fields_stage : (fields : List StatsField) (failures : List Failure) (Has : Row → NumberedRow → Type 0) (writing : Writing) → Staged failures Has writing
      → Staged (failures ++ flat_map (λ stats. failures_before stats seen_rows) fields) (λ row later. Has row later × HasAllBefore fields writing row later) (write_all_before fields writing)
  fields_stage [] failures Has writing stage =
      stage_as held start visible so_far failures (failures ++ []) Has (λ row later. Has row later × HasAllBefore [] writing row later) writing (sym (append-nil failures)) (λ row later has. (has, refl)) stage
  fields_stage (stats ∷ fields) failures Has writing stage =
      let one = before_stage stats failures Has writing stage in
      let One : Row → NumberedRow → Type 0 = λ row later. Has row later × HasBefore stats writing row later in
      let rest = fields_stage fields (failures ++ failures_before stats seen_rows) One (write_before stats writing) one in
      stage_as held start visible so_far _ _ (λ row later. One row later × HasAllBefore fields (write_before stats writing) row later) _ _
      (append_assoc failures (failures_before stats seen_rows) (flat_map (λ stats. failures_before stats seen_rows) fields))
      (λ row later has. (
        has.0.0,
        map-append (λ (input : CallInput). input_cell later input.input) (inputs_before stats writing) (all_inputs fields (write_before stats writing))
            ∙ (λ i. has.0.1 i ++ has.1 i)
            ∙ sym (map-append (read_of row) (calls_in_field stats) (calls_in_fields fields)),
      )) rest

  -- what rows are grouped by
  abbrev pub HasGroups : List Field → Writing → Row → NumberedRow → Type 0
  HasGroups groups writing row later = map (λ (input : GroupInput). later input.id.0) (group_inputs groups writing) ≡ map (λ (group : Field). (value_in_row group.expr row).cell) groups

  pub groups_stage : (groups : List Field) (failures : List Failure) (Has : Row → NumberedRow → Type 0) (writing : Writing) → Staged failures Has writing
      → Staged (failures ++ flat_map (λ (group : Field). failures_of_expr group.expr seen_rows) groups) (λ row later. Has row later × HasGroups groups writing row later) (write_groups groups writing)
  groups_stage [] failures Has writing stage =
      stage_as held start visible so_far failures (failures ++ []) Has (λ row later. Has row later × HasGroups [] writing row later) writing (sym (append-nil failures)) (λ row later has. (has, refl)) stage
  groups_stage (group ∷ groups) failures Has writing stage =
      let one = input_stage held start visible so_far failures Has writing stage group.expr in
      let One : Row → NumberedRow → Type 0 = λ row later. Has row later × (later (input_of writing group.expr).0 ≡ (value_in_row group.expr row).cell) in
      let rest = groups_stage groups (failures ++ failures_of_expr group.expr seen_rows) One (write_input writing group.expr) one in
      stage_as held start visible so_far _ _ (λ row later. One row later × HasGroups groups (write_input writing group.expr) row later) _ _
      (append_assoc failures (failures_of_expr group.expr seen_rows) (flat_map (λ (group : Field). failures_of_expr group.expr seen_rows) groups))
      (λ row later has. (has.0.0, λ i. has.0.1 i ∷ has.1 i)) rest
