-- STATS takes room for twice as many columns, and twice as many patterns of each kind, as it has nodes at most.
use Rattle.std.proofs.Common.{◌≡◌, ℕ, ◌+◌, ◌*◌, ◌≤◌, List, [], ◌∷◌, ◌++◌, length, Option, Some, None, refl, ap, sym, subst, arith}
use Rattle.std.specs.List.{flat_map}
use Rattle.std.proofs.lemmas.List.{length-append}
use Rattle.esql_types.specs.declared.names.ColId.{ColId}
use Rattle.esql_types.specs.declared.value.Kind.{Kind}
use Rattle.esql_ast.specs.declared.expr.Expr.{Expr}
use Rattle.esql_ast.specs.declared.query.Condition.{Condition}
use Rattle.esql_ast.specs.declared.query.Field.{Field}
use Rattle.esql_ast.specs.declared.query.StatsField.{StatsField}
use Rattle.esql_ast.specs.Nodes.{nodes_of_expr, nodes_of_field, nodes_of_stats, nodes_of_condition}
use Rattle.esql_plan.specs.declared.plan.OutColumn.{OutColumn}
use Rattle.esql_plan.specs.declared.typed.TypedExpr.{TypedExpr}
use Rattle.row_semantics.specs.Fields.{name_of_field}
use Rattle.row_semantics.specs.Typed.{typing_of}
use Rattle.query_semantics.specs.Calls.{AggregateCall, calls_of}
use Rattle.query_semantics.specs.Stats.{name_of_stats}
use Rattle.query_semantics.specs.Writings.{Writing, put_visible, column_of_typed, input_by, write_input}
use Rattle.query_semantics.specs.WrittenStats.{Flag, CallInput, GroupInput, flag_of, write_flag, write_call, write_calls, inputs_of_calls, write_before, inputs_before, write_all_before, all_inputs, write_groups, group_inputs, write_grouping, field_typed, write_field_by, write_stats_field, write_stats_fields, put_groups, write_behind, write_stats}
use Rattle.plan_writing.specs.Writings.{HasRoom}
use Rattle.plan_writing.proofs.Expressions.{patterns_at_most, some_node}
use Rattle.stats_writing.specs.CallsSeen.{size_of_call, size_of_calls, calls_in_fields}
use Rattle.stats_writing.proofs.CallsWithin.{calls_covered}
use Rattle.plan_writing.proofs.PlainRooms.{less_room, input_room, put_shown}

-- inputs --------------------------------------------------------------------------------------------------------------------

pub flag_room : (condition : Option Condition) (writing : Writing) (more : ℕ) → HasRoom writing (length (nodes_of_condition condition) + more) → HasRoom (write_flag condition writing) more
flag_room None writing more room = less_room writing _ more (omega arith) room
flag_room (Some condition) writing more room =
    let most = patterns_at_most condition.expr in
    record {
      shown = omega (arith, room.shown);
      columns = omega (arith, room.columns);
      whole = omega (arith, room.whole, most.whole, length-append writing.whole (typing_of condition.expr).whole);
      free = omega (arith, room.free, most.free, length-append writing.free (typing_of condition.expr).free);
      cutters = omega (arith, room.cutters);
    }

-- a call has room for its own column behind that of its argument
pub call_room : (flag : Option Flag) (call : AggregateCall) (writing : Writing) (more : ℕ) → HasRoom writing (size_of_call call + more) → HasRoom (write_call flag call.argument writing) (1 + more)
call_room flag call writing more room = by_argument flag call.argument room
  where
    by_argument : (flag : Option Flag) (argument : Option Expr) → HasRoom writing (size_of_call (record { node = call.node; function = call.function; argument = argument }) + more) → HasRoom (write_call flag argument writing) (1 + more)
    by_argument flag None room = less_room writing _ (1 + more) (omega arith) room
    by_argument None (Some argument) room = input_room argument writing (1 + more) (less_room writing _ _ (omega arith) room)
    by_argument (Some flag) (Some argument) room =
        let most = patterns_at_most argument in
        let some = some_node argument in
        record {
          shown = omega (arith, room.shown, some);
          columns = omega (arith, room.columns, some);
          whole = omega (arith, room.whole, most.whole, length-append writing.whole (typing_of argument).whole);
          free = omega (arith, room.free, most.free, length-append writing.free (typing_of argument).free);
          cutters = omega (arith, room.cutters);
        }

pub calls_room : (flag : Option Flag) (calls : List AggregateCall) (writing : Writing) (more : ℕ) → HasRoom writing (size_of_calls calls + more) → HasRoom (write_calls flag calls writing) (length calls + more)
calls_room flag [] writing more room = less_room writing (size_of_calls [] + more) (0 + more) (omega arith) room
calls_room flag (call ∷ calls) writing more room =
    less_room (write_calls flag (call ∷ calls) writing) (length calls + (1 + more)) (length (call ∷ calls) + more) (omega arith)
    (calls_room flag calls (write_call flag call.argument writing) (1 + more)
    (less_room (write_call flag call.argument writing) (1 + (size_of_calls calls + more)) (size_of_calls calls + (1 + more)) (omega arith)
    (call_room flag call writing (size_of_calls calls + more) (less_room writing _ _ (omega arith) room))))

pub before_room : (stats : StatsField) (writing : Writing) (more : ℕ) → HasRoom writing (length (nodes_of_stats stats) + more) → HasRoom (write_before stats writing) (length (calls_of stats.field.expr) + more)
before_room stats writing more room =
    let covered = calls_covered stats.field.expr in
    let both = length-append (nodes_of_field stats.field) (nodes_of_condition stats.condition) in
    let calls : List AggregateCall = calls_of stats.field.expr in
    calls_room (flag_of stats.condition writing) calls (write_flag stats.condition writing) more
    (flag_room stats.condition writing (size_of_calls calls + more) (less_room writing _ _ (omega (arith, covered, both)) room))

-- room for the calls of a field behind the column of its condition
pub calls_have_room : (stats : StatsField) (writing made : Writing) (calls : List AggregateCall) → made ≡ write_flag stats.condition writing → calls ≡ calls_of stats.field.expr
    → HasRoom writing (length (nodes_of_stats stats)) → HasRoom made (size_of_calls calls)
calls_have_room stats writing made calls is are room =
    let covered = calls_covered stats.field.expr in
    let both = length-append (nodes_of_field stats.field) (nodes_of_condition stats.condition) in
    let size : size_of_calls calls ≡ size_of_calls (calls_of stats.field.expr) = ap size_of_calls are in
    subst (λ (these : Writing). HasRoom these (size_of_calls calls)) (sym is)
    (flag_room stats.condition writing (size_of_calls calls) (less_room writing (length (nodes_of_stats stats)) _ (omega (arith, covered, both, size)) room))

inputs_length : (flag : Option Flag) (calls : List AggregateCall) (writing : Writing) → length (inputs_of_calls flag calls writing) ≡ length calls
inputs_length flag [] writing = refl
inputs_length flag (call ∷ calls) writing = let rest = inputs_length flag calls (write_call flag call.argument writing) in omega (arith, rest)

pub all_inputs_length : (fields : List StatsField) (writing : Writing) → length (all_inputs fields writing) ≡ calls_in_fields fields
all_inputs_length [] writing = refl
all_inputs_length (stats ∷ fields) writing =
    let first = inputs_length (flag_of stats.condition writing) (calls_of stats.field.expr) (write_flag stats.condition writing) in
    let rest = all_inputs_length fields (write_before stats writing) in
    omega (arith, first, rest, length-append (inputs_before stats writing) (all_inputs fields (write_before stats writing)))

pub all_before_room : (fields : List StatsField) (writing : Writing) (more : ℕ) → HasRoom writing (length (flat_map nodes_of_stats fields) + more) → HasRoom (write_all_before fields writing) (calls_in_fields fields + more)
all_before_room [] writing more room = less_room writing _ (0 + more) (omega arith) room
all_before_room (stats ∷ fields) writing more room =
    let calls : ℕ = length (calls_of stats.field.expr) in
    let both = length-append (nodes_of_stats stats) (flat_map nodes_of_stats fields) in
    less_room (write_all_before fields (write_before stats writing)) (calls_in_fields fields + (calls + more)) (calls_in_fields (stats ∷ fields) + more) (omega arith)
    (all_before_room fields (write_before stats writing) (calls + more)
    (less_room (write_before stats writing) (calls + (length (flat_map nodes_of_stats fields) + more)) (length (flat_map nodes_of_stats fields) + (calls + more)) (omega arith)
    (before_room stats writing (length (flat_map nodes_of_stats fields) + more) (less_room writing _ _ (omega (arith, both)) room))))

pub groups_room : (groups : List Field) (writing : Writing) (more : ℕ) → HasRoom writing (length (flat_map nodes_of_field groups) + more) → HasRoom (write_groups groups writing) more
groups_room [] writing more room = less_room writing _ more (omega arith) room
groups_room (group ∷ groups) writing more room =
    let both = length-append (nodes_of_field group) (flat_map nodes_of_field groups) in
    groups_room groups (write_input writing group.expr) more (input_room group.expr writing (length (flat_map nodes_of_field groups) + more) (less_room writing _ _ (omega (arith, both)) room))

pub group_inputs_length : (groups : List Field) (writing : Writing) → length (group_inputs groups writing) ≡ length groups
group_inputs_length [] writing = refl
group_inputs_length (group ∷ groups) writing = let rest = group_inputs_length groups (write_input writing group.expr) in omega (arith, rest)

pub groups_few : (groups : List Field) → length groups ≤ length (flat_map nodes_of_field groups)
groups_few [] = omega arith
groups_few (group ∷ groups) =
    let some = some_node group.expr in
    let rest = groups_few groups in
    omega (arith, some, rest, length-append (nodes_of_field group) (flat_map nodes_of_field groups))

-- behind the groups -----------------------------------------------------------------------------------------------------------

pub grouping_room : (calls : List CallInput) (groups : List GroupInput) (writing : Writing) (more : ℕ) → HasRoom writing (length calls + length groups + more) → HasRoom (write_grouping calls groups writing) more
grouping_room calls groups writing more room =
    record { shown = omega (arith, room.columns); columns = omega (arith, room.columns); whole = omega (arith, room.whole); free = omega (arith, room.free); cutters = omega (arith, room.cutters) }

field_by_room : (found : Option ColId) (writing : Writing) (expr : Expr) (typed : TypedExpr) (name : List ℕ) (kind : Kind) (number more : ℕ) → HasRoom writing (length (nodes_of_expr expr) + more)
    → HasRoom (record (write_field_by found writing expr typed) { visible = put_visible writing.visible name kind number }) more
field_by_room (Some id) writing expr typed name kind number more room =
    let some = some_node expr in
    let shown = put_shown writing.visible name kind number in
    record { shown = omega (arith, room.shown, shown, some); columns = omega (arith, room.columns); whole = omega (arith, room.whole); free = omega (arith, room.free); cutters = omega (arith, room.cutters) }
field_by_room None writing expr typed name kind number more room =
    let most = patterns_at_most expr in
    let some = some_node expr in
    let shown = put_shown writing.visible name kind number in
    record {
      shown = omega (arith, room.shown, shown, some);
      columns = omega (arith, room.columns, some);
      whole = omega (arith, room.whole, most.whole, length-append writing.whole (typing_of expr).whole);
      free = omega (arith, room.free, most.free, length-append writing.free (typing_of expr).free);
      cutters = omega (arith, room.cutters);
    }

pub field_room : (text : List ℕ) (before : List OutColumn) (number : ℕ) (stats : StatsField) (writing : Writing) (more : ℕ) → HasRoom writing (length (nodes_of_stats stats) + more)
    → HasRoom (write_stats_field text before number stats writing) more
field_room text before number stats writing more room =
    let typed : TypedExpr = field_typed before number writing stats.field.expr in
    let both = length-append (nodes_of_field stats.field) (nodes_of_condition stats.condition) in
    field_by_room (column_of_typed typed) writing stats.field.expr typed (name_of_stats text stats) typed.kind (input_by (column_of_typed typed) writing.next).0 more
    (less_room writing _ _ (omega (arith, both)) room)

pub fields_room : (text : List ℕ) (before : List OutColumn) (number : ℕ) (fields : List StatsField) (writing : Writing) (more : ℕ) → HasRoom writing (length (flat_map nodes_of_stats fields) + more)
    → HasRoom (write_stats_fields text before number fields writing) more
fields_room text before number [] writing more room = less_room writing _ more (omega arith) room
fields_room text before number (stats ∷ fields) writing more room =
    let both = length-append (nodes_of_stats stats) (flat_map nodes_of_stats fields) in
    fields_room text before (number + length (calls_of stats.field.expr)) fields (write_stats_field text before number stats writing) more
    (field_room text before number stats writing (length (flat_map nodes_of_stats fields) + more) (less_room writing _ _ (omega (arith, both)) room))

groups_shown : (text : List ℕ) (number : ℕ) (groups : List Field) (inputs : List GroupInput) (visible : List OutColumn) → length (put_groups text number groups inputs visible) ≤ length visible + length groups
groups_shown text number [] inputs visible = omega arith
groups_shown text number (group ∷ groups) [] visible = omega arith
groups_shown text number (group ∷ groups) (input ∷ inputs) visible =
    let rest = groups_shown text (number + 1) groups inputs (put_visible visible (name_of_field text group) input.kind number) in
    let own = put_shown visible (name_of_field text group) input.kind number in
    omega (arith, rest, own)

-- each field shows one column at most
fields_many : (text : List ℕ) (before : List OutColumn) (number : ℕ) (fields : List StatsField) (writing : Writing)
    → length (write_stats_fields text before number fields writing).visible ≤ length writing.visible + length (flat_map nodes_of_stats fields)
fields_many text before number [] writing = omega arith
fields_many text before number (stats ∷ fields) writing =
    let typed : TypedExpr = field_typed before number writing stats.field.expr in
    let rest = fields_many text before (number + length (calls_of stats.field.expr)) fields (write_stats_field text before number stats writing) in
    let shown = put_shown writing.visible (name_of_stats text stats) typed.kind (input_by (column_of_typed typed) writing.next).0 in
    omega (
      arith,
      rest,
      shown,
      some_node stats.field.expr,
      length-append (nodes_of_stats stats) (flat_map nodes_of_stats fields),
      length-append (nodes_of_field stats.field) (nodes_of_condition stats.condition),
    )

behind_room : (text : List ℕ) (before : List OutColumn) (number calls : ℕ) (fields : List StatsField) (groups : List Field) (inputs : List GroupInput) (writing : Writing) (more : ℕ)
    → HasRoom writing (length (flat_map nodes_of_stats fields) + more) → length writing.visible + (length (flat_map nodes_of_stats fields) + (length groups + more)) ≤ 4294967295
    → HasRoom (write_behind text before number calls fields groups inputs writing) more
behind_room text before number calls fields groups inputs writing more room few =
    let after = fields_room text before number fields writing more room in
    let many = fields_many text before number fields writing in
    let shown = groups_shown text (number + calls) groups inputs (write_stats_fields text before number fields writing).visible in
    record { shown = omega (arith, few, many, shown); columns = omega (arith, after.columns); whole = omega (arith, after.whole); free = omega (arith, after.free); cutters = omega (arith, after.cutters) }

-- room before the groups are made, for what comes behind
pub inputs_room : (fields : List StatsField) (groups : List Field) (writing : Writing) (more : ℕ) → HasRoom writing (2 * length (flat_map nodes_of_stats fields ++ flat_map nodes_of_field groups) + more)
    → HasRoom (write_groups groups (write_all_before fields writing))
    (length (all_inputs fields writing) + length (group_inputs groups (write_all_before fields writing)) + (length (flat_map nodes_of_stats fields) + more))
inputs_room fields groups writing more room =
    let field_nodes : ℕ = length (flat_map nodes_of_stats fields) in
    let group_nodes : ℕ = length (flat_map nodes_of_field groups) in
    let both : length (flat_map nodes_of_stats fields ++ flat_map nodes_of_field groups) ≡ field_nodes + group_nodes = length-append (flat_map nodes_of_stats fields) (flat_map nodes_of_field groups) in
    let calls : ℕ = calls_in_fields fields in
    less_room (write_groups groups (write_all_before fields writing)) (calls + (field_nodes + (group_nodes + more))) _
    (omega (arith, all_inputs_length fields writing, group_inputs_length groups (write_all_before fields writing), groups_few groups))
    (groups_room groups (write_all_before fields writing) (calls + (field_nodes + (group_nodes + more)))
    (less_room (write_all_before fields writing) (calls + (field_nodes + (group_nodes + (group_nodes + more)))) _ (omega arith)
    (all_before_room fields writing (field_nodes + (group_nodes + (group_nodes + more))) (less_room writing _ _ (omega (arith, both)) room))))

pub stats_room : (text : List ℕ) (fields : List StatsField) (groups : List Field) (writing : Writing) (more : ℕ)
    → HasRoom writing (2 * length (flat_map nodes_of_stats fields ++ flat_map nodes_of_field groups) + more) → HasRoom (write_stats text fields groups writing) more
stats_room text fields groups writing more room =
    let with_inputs : Writing = write_groups groups (write_all_before fields writing) in
    let calls : List CallInput = all_inputs fields writing in
    let inputs : List GroupInput = group_inputs groups (write_all_before fields writing) in
    let both = length-append (flat_map nodes_of_stats fields) (flat_map nodes_of_field groups) in
    behind_room text writing.visible with_inputs.next (length calls) fields groups inputs (write_grouping calls inputs with_inputs) more
    (grouping_room calls inputs with_inputs _ (inputs_room fields groups writing more room)) (omega (arith, room.columns, both, groups_few groups))
