-- STATS writes steps that are well formed over the columns that are made before them.
use Rattle.std.proofs.Common.{◌≡◌, ℕ, ◌+◌, ◌≤◌, List, [], ◌∷◌, ◌++◌, length, All, Ok, arith}
use Rattle.std.specs.List.{flat_map}
use Rattle.std.proofs.lemmas.List.Elements.{All-nil, All-cons}
use Rattle.esql_types.specs.declared.names.Column.{Column}
use Rattle.esql_types.specs.declared.names.NodeId.{NodeId}
use Rattle.esql_ast.specs.declared.query.Field.{Field}
use Rattle.esql_ast.specs.declared.query.StatsField.{StatsField}
use Rattle.esql_ast.specs.Nodes.{nodes_of_expr, nodes_of_field, nodes_of_condition, nodes_of_stats}
use Rattle.esql_plan.specs.declared.plan.OutColumn.{OutColumn}
use Rattle.plan_semantics.specs.WellFormed.{MadeColumn, steps_made}
use Rattle.row_semantics.specs.Fields.{name_of_field}
use Rattle.query_semantics.specs.Calls.{AggregateCall}
use Rattle.query_semantics.specs.Shapes.{Context}
use Rattle.query_semantics.specs.StatsShapes.{shape_of_stats}
use Rattle.query_semantics.specs.Writings.{Writing, put_visible}
use Rattle.query_semantics.specs.WrittenStats.{CallInput, GroupInput, write_all_before, all_inputs, write_groups, group_inputs, write_grouping, put_groups, write_stats_fields, write_stats}
use Rattle.written_laws.proofs.CallsFormed.{calls_in_field, calls_kept, fields_before, groups_formed}
use Rattle.written_laws.proofs.ColumnsTyped.{OutIsMade}
use Rattle.written_laws.proofs.FieldsFormed.{FieldDiffers, put_made, fields_formed}
use Rattle.written_laws.proofs.GroupingFormed.{AreGroupsNumbered, groups_kept, grouping_formed}
use Rattle.written_laws.proofs.NodesCounted.{placed, placed-append}
use Rattle.written_laws.proofs.Shown.{Shows}
use Rattle.written_laws.proofs.StatsJudged.{stats_judged}
use Rattle.written_laws.proofs.StepsFormed.{Start, IsFormed, seen_formed}

groups_seen : (made : List MadeColumn) (text : List ℕ) (number : ℕ) (groups : List Field) (inputs : List GroupInput) (visible : List OutColumn) → All (OutIsMade made) visible
    → AreGroupsNumbered made number inputs → All (OutIsMade made) (put_groups text number groups inputs visible)
groups_seen made text number [] inputs visible all are = all
groups_seen made text number (group ∷ groups) [] visible all are = all
groups_seen made text number (group ∷ groups) (input ∷ inputs) visible all are =
    groups_seen made text (number + 1) groups inputs (put_visible visible (name_of_field text group) input.kind number)
    (put_made made visible (name_of_field text group) input.kind number all are.0) are.1

fields_differ : (fields : List StatsField) → ((node : NodeId) → placed node (flat_map nodes_of_stats fields) ≤ 1) → All FieldDiffers fields
fields_differ [] differ = All-nil FieldDiffers
fields_differ (stats ∷ fields) differ =
    All-cons FieldDiffers stats fields
    (λ node. omega (
      arith,
      differ node,
      placed-append node (nodes_of_stats stats) (flat_map nodes_of_stats fields),
      placed-append node (nodes_of_expr stats.field.expr) (nodes_of_condition stats.condition),
    ))
    (fields_differ fields (λ node. omega (arith, differ node, placed-append node (nodes_of_stats stats) (flat_map nodes_of_stats fields))))

-- STATS
pub stats_formed : (made : List MadeColumn) (start : Start) (context : Context) (fields : List StatsField) (groups : List Field) (columns after : List Column) (writing : Writing)
    → IsFormed made start writing → Shows writing columns → ((node : NodeId) → placed node (flat_map nodes_of_stats fields ++ flat_map nodes_of_field groups) ≤ 1)
    → shape_of_stats context.text context.accepts fields groups columns ≡ Ok after → IsFormed made start (write_stats context.text fields groups writing)
stats_formed made start context fields groups columns after writing formed shows differ is =
    let judged = stats_judged context.accepts columns context.text fields groups after is in
    let calls : List CallInput = all_inputs fields writing in
    let inputs : List GroupInput = group_inputs groups (write_all_before fields writing) in
    let with_arguments : Writing = write_all_before fields writing in
    let with_inputs : Writing = write_groups groups with_arguments in
    let grouped : Writing = write_grouping calls inputs with_inputs in
    let behind : Writing = write_stats_fields context.text writing.visible with_inputs.next fields grouped in
    let all_calls : List AggregateCall = flat_map calls_in_field fields in
    let arguments = fields_before made start context columns fields writing formed shows judged.fields_are in
    let keys = groups_formed made start context columns groups with_arguments arguments.after.formed arguments.after.shows judged.groups_are in
    let grouping = grouping_formed made start columns all_calls calls inputs with_inputs keys.after.formed
    (calls_kept columns (steps_made made with_arguments.steps) (steps_made made with_inputs.steps) keys.after.kept all_calls calls arguments.calls_made) keys.inputs in
    let own = fields_formed made start context columns writing.visible shows with_inputs.next fields grouped grouping.formed judged.fields_are
    (fields_differ fields (λ node. omega (arith, differ node, placed-append node (flat_map nodes_of_stats fields) (flat_map nodes_of_field groups)))) grouping.calls_are in
    seen_formed made start behind own.formed (put_groups context.text (with_inputs.next + length calls) groups inputs behind.visible)
    (groups_seen (steps_made made behind.steps) context.text (with_inputs.next + length calls) groups inputs behind.visible own.formed.columns.seen
    (groups_kept (steps_made made grouped.steps) (steps_made made behind.steps) own.kept (with_inputs.next + length calls) inputs grouping.groups_are))
