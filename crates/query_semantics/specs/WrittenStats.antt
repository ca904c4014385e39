-- STATS in a plan: a step for each condition, for each argument and for what rows are grouped by, where these are no columns; then
-- one step that makes the groups; then a step for each field that is no aggregate call alone.
use Rattle.std.specs.Prelude.{ℕ, ◌+◌, true, List, [], ◌∷◌, ◌++◌, length, Option, Some, None}
use Rattle.esql_types.specs.declared.names.NodeId.{NodeId}
use Rattle.esql_types.specs.declared.names.ColId.{ColId}
use Rattle.esql_types.specs.declared.value.Kind.{Kind}
use Rattle.esql_types.specs.declared.value.Kind.TheVariants as kind
use Rattle.esql_types.specs.declared.value.Value.TheVariants.{Bool}
use Rattle.esql_ast.specs.declared.expr.Expr.{Expr}
use Rattle.esql_ast.specs.declared.query.Condition.{Condition}
use Rattle.esql_ast.specs.declared.query.Field.{Field}
use Rattle.esql_ast.specs.declared.query.StatsField.{StatsField}
use Rattle.esql_plan.specs.declared.function.AggFunction.{AggFunction}
use Rattle.esql_plan.specs.declared.function.AggFunction.TheVariants as aggregate
use Rattle.esql_plan.specs.declared.function.Function.TheVariants as function
use Rattle.esql_plan.specs.declared.plan.OutColumn.{OutColumn}
use Rattle.esql_plan.specs.declared.step.Aggregate.{Aggregate}
use Rattle.esql_plan.specs.declared.step.GroupColumn.{GroupColumn}
use Rattle.esql_plan.specs.declared.step.Step.TheVariants as step
use Rattle.esql_plan.specs.declared.typed.TypedExpr.{TypedExpr}
use Rattle.esql_plan.specs.declared.typed.TypedForm.TheVariants as form
use Rattle.esql_plan.specs.Exprs.{typed_at, constant_at}
use Rattle.row_semantics.specs.Fields.{name_of_field}
use Rattle.row_semantics.specs.declared.call.CallColumn.{CallColumn}
use Rattle.row_semantics.specs.Typed.{typed_of, typed_apply}
use Rattle.query_semantics.specs.Calls.{AggregateCall, calls_of}
use Rattle.query_semantics.specs.Stats.{name_of_stats}
use Rattle.query_semantics.specs.Writings.{Writing, column_at, put_visible, typed_in, with_step, column_of_typed, write_input, input_by, input_of}

-- Conditions and arguments ---------------------------------------------------------------------------------------------

-- the column of a condition, which is true or null on each row, and the condition's node
pub record Flag : Type 0 where
  pub node : NodeId
  pub id : ColId

-- a typed condition, as the column of it has it: true where it is true, else null
abbrev pub flag_typed : NodeId → TypedExpr → TypedExpr
flag_typed node condition = typed_apply node function.Case (condition ∷ constant_at node kind.Boolean (Bool true ∷ []) ∷ []) None

-- a typed argument on the rows on which the condition is true, else null
abbrev pub flagged_typed : Flag → TypedExpr → TypedExpr
flagged_typed flag argument = typed_apply flag.node function.Case (typed_at flag.node kind.Boolean (form.Column flag.id) ∷ argument ∷ []) None

-- a step that makes the next column, which cannot be seen, of a typed expression
abbrev pub write_typed : Writing → Expr → TypedExpr → Writing
write_typed writing expr typed = record (with_step writing expr (step.Eval (column_at writing.next) typed)) { next = writing.next + 1 }

abbrev pub write_flag : Option Condition → Writing → Writing
write_flag None writing = writing
write_flag (Some condition) writing = write_typed writing condition.expr (flag_typed condition.node (typed_in writing condition.expr))

abbrev pub flag_of : Option Condition → Writing → Option Flag
flag_of None writing = None
flag_of (Some condition) writing = Some (record { node = condition.node; id = column_at writing.next })

-- a call without an argument reads no more than the column of the condition
abbrev pub write_call : Option Flag → Option Expr → Writing → Writing
write_call flag None writing = writing
write_call None (Some argument) writing = write_input writing argument
write_call (Some flag) (Some argument) writing = write_typed writing argument (flagged_typed flag (typed_in writing argument))

-- the column that a call reads
abbrev pub call_input : Option Flag → Option Expr → Writing → Option ColId
call_input None None writing = None
call_input (Some flag) None writing = Some flag.id
call_input None (Some argument) writing = Some (input_of writing argument)
call_input (Some flag) (Some argument) writing = Some (column_at writing.next)

-- rows on which a condition is true are counted as values of its column
abbrev pub function_of_call : Option Flag → AggFunction → AggFunction
function_of_call (Some flag) aggregate.CountRows = aggregate.Count
function_of_call flag other = other

-- an aggregate before it has a number
pub record CallInput : Type 0 where
  pub node : NodeId
  pub function : AggFunction
  pub input : Option ColId

abbrev pub write_calls : Option Flag → List AggregateCall → Writing → Writing
write_calls flag [] writing = writing
write_calls flag (call ∷ calls) writing = write_calls flag calls (write_call flag call.argument writing)

abbrev pub inputs_of_calls : Option Flag → List AggregateCall → Writing → List CallInput
inputs_of_calls flag [] writing = []
inputs_of_calls flag (call ∷ calls) writing =
    record { node = call.node; function = function_of_call flag call.function; input = call_input flag call.argument writing }
    ∷ inputs_of_calls flag calls (write_call flag call.argument writing)

-- the condition of a field, then the arguments of its calls
abbrev pub write_before : StatsField → Writing → Writing
write_before stats writing = write_calls (flag_of stats.condition writing) (calls_of stats.field.expr) (write_flag stats.condition writing)

abbrev pub inputs_before : StatsField → Writing → List CallInput
inputs_before stats writing = inputs_of_calls (flag_of stats.condition writing) (calls_of stats.field.expr) (write_flag stats.condition writing)

abbrev pub write_all_before : List StatsField → Writing → Writing
write_all_before [] writing = writing
write_all_before (stats ∷ fields) writing = write_all_before fields (write_before stats writing)

abbrev pub all_inputs : List StatsField → Writing → List CallInput
all_inputs [] writing = []
all_inputs (stats ∷ fields) writing = inputs_before stats writing ++ all_inputs fields (write_before stats writing)

-- What rows are grouped by -----------------------------------------------------------------------------------------------

-- a column that rows are grouped by, with its kind
pub record GroupInput : Type 0 where
  pub id : ColId
  pub kind : Kind

abbrev pub write_groups : List Field → Writing → Writing
write_groups [] writing = writing
write_groups (group ∷ groups) writing = write_groups groups (write_input writing group.expr)

abbrev pub group_inputs : List Field → Writing → List GroupInput
group_inputs [] writing = []
group_inputs (group ∷ groups) writing =
    record { id = input_of writing group.expr; kind = (typed_in writing group.expr).kind } ∷ group_inputs groups (write_input writing group.expr)

-- The groups -------------------------------------------------------------------------------------------------------------

abbrev pub aggregates_from : ℕ → List CallInput → List Aggregate
aggregates_from number [] = []
aggregates_from number (call ∷ calls) =
    record { node = call.node; function = call.function; input = call.input; to = column_at number } ∷ aggregates_from (number + 1) calls

abbrev pub groups_from : ℕ → List GroupInput → List GroupColumn
groups_from number [] = []
groups_from number (group ∷ groups) = record { id = group.id; to = column_at number } ∷ groups_from (number + 1) groups

-- the step that makes the groups; no column can be seen behind it so far
abbrev pub write_grouping : List CallInput → List GroupInput → Writing → Writing
write_grouping calls groups writing = record writing {
  visible = [];
  next = writing.next + (length calls + length groups);
  steps = writing.steps ++ step.Stats (aggregates_from writing.next calls) (groups_from (writing.next + length calls) groups) ∷ [];
}

-- Fields -----------------------------------------------------------------------------------------------------------------

-- the columns of the calls of a field, on from a number
abbrev pub call_columns : ℕ → List AggregateCall → List CallColumn
call_columns number [] = []
call_columns number (call ∷ calls) = record { node = call.node; id = column_at number } ∷ call_columns (number + 1) calls

-- a field over the columns of its calls, the first of which has a number; the columns before STATS tell the kinds of the arguments
abbrev pub field_typed : List OutColumn → ℕ → Writing → Expr → TypedExpr
field_typed before number writing expr =
    typed_of expr (record { columns = before; calls = call_columns number (calls_of expr) }) (length writing.whole) (length writing.free)

abbrev pub write_field_by : Option ColId → Writing → Expr → TypedExpr → Writing
write_field_by (Some id) writing expr typed = writing
write_field_by None writing expr typed = write_typed writing expr typed

-- a field that is an aggregate call alone is that call's column, and any other makes a column
abbrev pub write_stats_field : List ℕ → List OutColumn → ℕ → StatsField → Writing → Writing
write_stats_field text before number stats writing =
    let typed : TypedExpr = field_typed before number writing stats.field.expr in
    record (write_field_by (column_of_typed typed) writing stats.field.expr typed) {
      visible = put_visible writing.visible (name_of_stats text stats) typed.kind (input_by (column_of_typed typed) writing.next).0;
    }

abbrev pub write_stats_fields : List ℕ → List OutColumn → ℕ → List StatsField → Writing → Writing
write_stats_fields text before number [] writing = writing
write_stats_fields text before number (stats ∷ fields) writing =
    write_stats_fields text before (number + length (calls_of stats.field.expr)) fields (write_stats_field text before number stats writing)

-- the columns of what rows are grouped by
abbrev pub put_groups : List ℕ → ℕ → List Field → List GroupInput → List OutColumn → List OutColumn
put_groups text number [] inputs visible = visible
put_groups text number (group ∷ groups) [] visible = visible
put_groups text number (group ∷ groups) (input ∷ inputs) visible =
    put_groups text (number + 1) groups inputs (put_visible visible (name_of_field text group) input.kind number)

-- fields and groups behind the step that makes the groups, whose aggregates are numbered on from a number
abbrev pub write_behind : List ℕ → List OutColumn → ℕ → ℕ → List StatsField → List Field → List GroupInput → Writing → Writing
write_behind text before number calls fields groups inputs writing =
    let after : Writing = write_stats_fields text before number fields writing in
    record after { visible = put_groups text (number + calls) groups inputs after.visible }

-- STATS
abbrev pub write_stats : List ℕ → List StatsField → List Field → Writing → Writing
write_stats text fields groups writing =
    let with_arguments : Writing = write_all_before fields writing in
    let with_inputs : Writing = write_groups groups with_arguments in
    let calls : List CallInput = all_inputs fields writing in
    let inputs : List GroupInput = group_inputs groups with_arguments in
    write_behind text writing.visible with_inputs.next (length calls) fields groups inputs (write_grouping calls inputs with_inputs)
