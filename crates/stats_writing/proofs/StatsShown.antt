-- The columns that can be seen behind STATS are those of its shape.
use Rattle.std.proofs.Common.{◌≡◌, ℕ, ◌+◌, Bool, List, [], ◌∷◌, length, Option, Some, None, Ok, refl, ap, sym, ◌∙◌}
use Rattle.esql_types.specs.declared.value.Kind.{Kind}
use Rattle.esql_types.specs.declared.names.Column.{Column}
use Rattle.esql_types.specs.declared.names.ColId.{ColId}
use Rattle.esql_ast.specs.declared.expr.Expr.{Expr}
use Rattle.esql_ast.specs.declared.query.Condition.{Condition}
use Rattle.esql_ast.specs.declared.query.Field.{Field}
use Rattle.esql_ast.specs.declared.query.StatsField.{StatsField}
use Rattle.esql_plan.specs.declared.plan.OutColumn.{OutColumn}
use Rattle.esql_plan.specs.declared.typed.TypedExpr.{TypedExpr}
use Rattle.plan_semantics.specs.Plans.{columns_of}
use Rattle.row_semantics.specs.Columns.{put_column}
use Rattle.row_semantics.specs.Fields.{name_of_field}
use Rattle.row_semantics.specs.Kinds.{and_then, kind_or_rule}
use Rattle.row_semantics.specs.Regulars.{Regular}
use Rattle.row_semantics.specs.Scopes.{Broken}
use Rattle.query_semantics.specs.Calls.{AggregateCall, calls_of}
use Rattle.query_semantics.specs.Stats.{name_of_stats}
use Rattle.query_semantics.specs.StatsShapes.{FieldKinds, field_scope, outside_scope, kind_of_condition, kinds_of_field, kinds_of_fields, kinds_of_groups, fields_rule, put_field_columns, put_group_columns, unless_broken, shape_of_stats}
use Rattle.query_semantics.specs.Writings.{Writing, put_visible, typed_in, column_of_typed, write_input_by, write_input, input_by}
use Rattle.query_semantics.specs.WrittenStats.{Flag, CallInput, flag_of, write_flag, write_call, write_calls, write_before, write_all_before, all_inputs, write_groups, group_inputs, write_grouping, call_columns, field_typed, write_stats_field, write_stats_fields, put_groups, write_stats}
use Rattle.query_semantics.proofs.Kinded.{found_of, ok_is, expr_kinded}
use Rattle.query_semantics.proofs.Named.{columns_put}

-- what is written before the groups changes no column that can be seen ----------------------------------------------------------

pub input_shown : (expr : Expr) (writing : Writing) → (write_input writing expr).visible ≡ writing.visible
input_shown expr writing = by_column (column_of_typed (typed_in writing expr))
  where
    by_column : (found : Option ColId) → (write_input_by found expr writing).visible ≡ writing.visible
    by_column None = refl
    by_column (Some id) = refl

pub flag_shown : (condition : Option Condition) (writing : Writing) → (write_flag condition writing).visible ≡ writing.visible
flag_shown None writing = refl
flag_shown (Some condition) writing = refl

pub call_shown : (flag : Option Flag) (argument : Option Expr) (writing : Writing) → (write_call flag argument writing).visible ≡ writing.visible
call_shown flag None writing = refl
call_shown None (Some argument) writing = input_shown argument writing
call_shown (Some flag) (Some argument) writing = refl

calls_shown : (flag : Option Flag) (calls : List AggregateCall) (writing : Writing) → (write_calls flag calls writing).visible ≡ writing.visible
calls_shown flag [] writing = refl
calls_shown flag (call ∷ calls) writing = calls_shown flag calls (write_call flag call.argument writing) ∙ call_shown flag call.argument writing

pub before_shown : (fields : List StatsField) (writing : Writing) → (write_all_before fields writing).visible ≡ writing.visible
before_shown [] writing = refl
before_shown (stats ∷ fields) writing =
    before_shown fields (write_before stats writing) ∙ calls_shown (flag_of stats.condition writing) (calls_of stats.field.expr) (write_flag stats.condition writing) ∙ flag_shown stats.condition writing

-- behind the groups -------------------------------------------------------------------------------------------------------------

fields_shown : (text : List ℕ) (accepts : Regular → Bool) (before : List OutColumn) (number : ℕ) (fields : List StatsField) (writing : Writing) (kinds : List FieldKinds)
    → kinds_of_fields accepts (columns_of before) fields ≡ Ok kinds
    → columns_of (write_stats_fields text before number fields writing).visible ≡ put_field_columns text fields kinds (columns_of writing.visible)
fields_shown text accepts before number [] writing kinds is = refl
fields_shown text accepts before number (stats ∷ fields) writing kinds is =
    let columns : List Column = columns_of before in
    let first = found_of (kinds_of_field accepts columns stats) (λ first. and_then (kinds_of_fields accepts columns fields) (λ rest. Ok (first ∷ rest))) kinds is in
    let rest = found_of (kinds_of_fields accepts columns fields) (λ rest. Ok (first.value ∷ rest)) kinds first.next_is in
    let own = found_of (kind_or_rule stats.field.expr (field_scope accepts columns)) (λ own. and_then (kind_of_condition accepts columns stats.condition) (λ condition. Ok (record { own = own; condition = condition }))) first.value first.is in
    let condition = found_of (kind_of_condition accepts columns stats.condition) (λ condition. Ok (record { own = own.value; condition = condition })) first.value own.next_is in
    let typed : TypedExpr = field_typed before number writing stats.field.expr in
    let kind : typed.kind ≡ first.value.own =
    expr_kinded stats.field.expr (record { columns = before; calls = call_columns number (calls_of stats.field.expr) }) (field_scope accepts columns) own.value refl own.is (length writing.whole) (length writing.free)
    ∙ ap (λ (these : FieldKinds). these.own) (ok_is condition.next_is) in
    fields_shown text accepts before (number + length (calls_of stats.field.expr)) fields (write_stats_field text before number stats writing) rest.value rest.is
    ∙ ap (put_field_columns text fields rest.value)
    (sym (columns_put writing.visible (name_of_stats text stats) typed.kind (input_by (column_of_typed typed) writing.next).0) ∙ ap (put_column (columns_of writing.visible) (name_of_stats text stats)) kind)
    ∙ ap (λ (these : List FieldKinds). put_field_columns text (stats ∷ fields) these (columns_of writing.visible)) (ok_is rest.next_is)

groups_shown : (text : List ℕ) (accepts : Regular → Bool) (before : List OutColumn) (number : ℕ) (groups : List Field) (writing : Writing) (visible : List OutColumn) (kinds : List Kind)
    → kinds_of_groups accepts (columns_of before) groups ≡ Ok kinds → writing.visible ≡ before
    → columns_of (put_groups text number groups (group_inputs groups writing) visible) ≡ put_group_columns text groups kinds (columns_of visible)
groups_shown text accepts before number [] writing visible kinds is shown = refl
groups_shown text accepts before number (group ∷ groups) writing visible kinds is shown =
    let columns : List Column = columns_of before in
    let first = found_of (kind_or_rule group.expr (outside_scope accepts columns)) (λ first. and_then (kinds_of_groups accepts columns groups) (λ rest. Ok (first ∷ rest))) kinds is in
    let rest = found_of (kinds_of_groups accepts columns groups) (λ rest. Ok (first.value ∷ rest)) kinds first.next_is in
    let typed : TypedExpr = typed_in writing group.expr in
    let kind : typed.kind ≡ first.value =
    expr_kinded group.expr (record { columns = writing.visible; calls = [] }) (outside_scope accepts columns) first.value (ap columns_of (sym shown)) first.is (length writing.whole) (length writing.free) in
    groups_shown text accepts before (number + 1) groups (write_input writing group.expr) (put_visible visible (name_of_field text group) typed.kind number) rest.value rest.is (input_shown group.expr writing ∙ shown)
    ∙ ap (put_group_columns text groups rest.value)
    (sym (columns_put visible (name_of_field text group) typed.kind number) ∙ ap (put_column (columns_of visible) (name_of_field text group)) kind)
    ∙ ap (λ (these : List Kind). put_group_columns text (group ∷ groups) these (columns_of visible)) (ok_is rest.next_is)

left_by : (broken : Option Broken) (these columns : List Column) → unless_broken broken these ≡ Ok columns → these ≡ columns
left_by None these columns is = ok_is is
left_by (Some broken) these columns is = absurd cc

pub stats_shown : (text : List ℕ) (accepts : Regular → Bool) (fields : List StatsField) (groups : List Field) (writing : Writing) (columns : List Column)
    → shape_of_stats text accepts fields groups (columns_of writing.visible) ≡ Ok columns → columns_of (write_stats text fields groups writing).visible ≡ columns
stats_shown text accepts fields groups writing columns is =
    let own : List Column = columns_of writing.visible in
    let kinds = found_of (kinds_of_fields accepts own fields) (λ kinds. and_then (kinds_of_groups accepts own groups) (λ group_kinds. unless_broken (fields_rule fields kinds) (put_group_columns text groups group_kinds (put_field_columns text fields kinds [])))) columns is in
    let group_kinds = found_of (kinds_of_groups accepts own groups) (λ group_kinds. unless_broken (fields_rule fields kinds.value) (put_group_columns text groups group_kinds (put_field_columns text fields kinds.value []))) columns kinds.next_is in
    let arguments : Writing = write_all_before fields writing in
    let with_inputs : Writing = write_groups groups arguments in
    let calls : List CallInput = all_inputs fields writing in
    let grouping : Writing = write_grouping calls (group_inputs groups arguments) with_inputs in
    let after : Writing = write_stats_fields text writing.visible with_inputs.next fields grouping in
    groups_shown text accepts writing.visible (with_inputs.next + length calls) groups arguments after.visible group_kinds.value group_kinds.is (before_shown fields writing)
    ∙ ap (put_group_columns text groups group_kinds.value) (fields_shown text accepts writing.visible with_inputs.next fields grouping kinds.value kinds.is)
    ∙ left_by (fields_rule fields kinds.value) _ columns group_kinds.next_is
