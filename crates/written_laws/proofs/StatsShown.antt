-- The columns that can be seen behind STATS are those of its shape.
use Rattle.std.proofs.Common.{◌≡◌, ℕ, ◌+◌, Bool, List, [], ◌∷◌, length, Option, Some, None, Ok, refl, ap, sym, ◌∙◌}
use Rattle.esql_types.specs.declared.names.ColId.{ColId}
use Rattle.esql_types.specs.declared.names.Column.{Column}
use Rattle.esql_types.specs.declared.value.Kind.{Kind}
use Rattle.esql_ast.specs.declared.expr.Expr.{Expr}
use Rattle.esql_ast.specs.declared.query.Condition.{Condition}
use Rattle.esql_ast.specs.declared.query.Field.{Field}
use Rattle.esql_ast.specs.declared.query.StatsField.{StatsField}
use Rattle.esql_plan.specs.declared.plan.OutColumn.{OutColumn}
use Rattle.esql_plan.specs.declared.typed.TypedExpr.{TypedExpr}
use Rattle.plan_semantics.specs.Plans.{columns_of}
use Rattle.row_semantics.specs.Columns.{put_column}
use Rattle.row_semantics.specs.Fields.{name_of_field}
use Rattle.row_semantics.specs.Kinds.{and_then, kind_or_rule}
use Rattle.row_semantics.specs.Regulars.{Regular}
use Rattle.query_semantics.specs.Calls.{AggregateCall, calls_of}
use Rattle.query_semantics.specs.Stats.{name_of_stats}
use Rattle.query_semantics.specs.StatsShapes.{field_scope, outside_scope, FieldKinds, kind_of_condition, kinds_of_field, kinds_of_fields, kinds_of_groups, put_field_columns, put_group_columns, shape_of_stats}
use Rattle.query_semantics.specs.Writings.{Writing, put_visible, typed_in, column_of_typed, write_input_by, write_input, input_by}
use Rattle.query_semantics.specs.WrittenStats.{Flag, write_flag, flag_of, write_call, write_calls, write_before, write_all_before, all_inputs, write_groups, group_inputs, write_grouping, call_columns, field_typed, write_field_by, write_stats_field, write_stats_fields, put_groups, write_stats}
use Rattle.query_semantics.proofs.Kinded.{found_of, ok_is, expr_kinded}
use Rattle.query_semantics.proofs.Named.{columns_put}
use Rattle.written_laws.proofs.StatsWhole.{stats_shape}

-- the columns that can be seen are these
abbrev pub Shows : Writing → List Column → Type 0
Shows writing columns = columns ≡ columns_of writing.visible

-- Inputs are not seen --------------------------------------------------------------------------------------------------------

pub input_shows : (columns : List Column) (writing : Writing) (expr : Expr) → Shows writing columns → Shows (write_input writing expr) columns
input_shows columns writing expr shows = by_found (column_of_typed (typed_in writing expr))
  where
    by_found : (found : Option ColId) → Shows (write_input_by found expr writing) columns
    by_found (Some id) = shows
    by_found None = shows

flag_shows : (columns : List Column) (condition : Option Condition) (writing : Writing) → Shows writing columns → Shows (write_flag condition writing) columns
flag_shows columns None writing shows = shows
flag_shows columns (Some condition) writing shows = shows

call_shows : (columns : List Column) (flag : Option Flag) (argument : Option Expr) (writing : Writing) → Shows writing columns → Shows (write_call flag argument writing) columns
call_shows columns flag None writing shows = shows
call_shows columns None (Some argument) writing shows = input_shows columns writing argument shows
call_shows columns (Some flag) (Some argument) writing shows = shows

calls_show : (columns : List Column) (flag : Option Flag) (calls : List AggregateCall) (writing : Writing) → Shows writing columns → Shows (write_calls flag calls writing) columns
calls_show columns flag [] writing shows = shows
calls_show columns flag (call ∷ calls) writing shows = calls_show columns flag calls (write_call flag call.argument writing) (call_shows columns flag call.argument writing shows)

pub before_shows : (columns : List Column) (fields : List StatsField) (writing : Writing) → Shows writing columns → Shows (write_all_before fields writing) columns
before_shows columns [] writing shows = shows
before_shows columns (stats ∷ fields) writing shows =
    before_shows columns fields (write_before stats writing)
    (calls_show columns (flag_of stats.condition writing) (calls_of stats.field.expr) (write_flag stats.condition writing) (flag_shows columns stats.condition writing shows))

-- Fields -----------------------------------------------------------------------------------------------------------------------

module _ (text : List ℕ) (accepts : Regular → Bool) (columns : List Column) (before : List OutColumn) (are : columns ≡ columns_of before) where
  by_found : (found : Option ColId) (stats : StatsField) (typed : TypedExpr) (own : Kind) (seen : List Column) (writing : Writing) → typed.kind ≡ own → Shows writing seen
      → Shows (record (write_field_by found writing stats.field.expr typed) { visible = put_visible writing.visible (name_of_stats text stats) typed.kind (input_by found writing.next).0 })
      (put_column seen (name_of_stats text stats) own)
  by_found found stats typed own seen writing kinded shows =
      (λ i. put_column (shows i) (name_of_stats text stats) (sym kinded i)) ∙ columns_put writing.visible (name_of_stats text stats) typed.kind (input_by found writing.next).0

  field_shows : (number : ℕ) (stats : StatsField) (kinds : FieldKinds) (seen : List Column) (writing : Writing) → kinds_of_field accepts columns stats ≡ Ok kinds → Shows writing seen
      → Shows (write_stats_field text before number stats writing) (put_column seen (name_of_stats text stats) kinds.own)
  field_shows number stats kinds seen writing is shows =
      let found = found_of (kind_or_rule stats.field.expr (field_scope accepts columns)) (λ own.
      and_then (kind_of_condition accepts columns stats.condition) (λ condition. Ok (record { own = own; condition = condition }))) kinds is in
      let last = found_of (kind_of_condition accepts columns stats.condition) (λ condition. Ok (record { own = found.value; condition = condition })) kinds found.next_is in
      let typed : TypedExpr = field_typed before number writing stats.field.expr in
      let kinded = expr_kinded stats.field.expr (record { columns = before; calls = call_columns number (calls_of stats.field.expr) }) (field_scope accepts columns) found.value are found.is _ _ in
      by_found (column_of_typed typed) stats typed kinds.own seen writing (kinded ∙ ap (λ (these : FieldKinds). these.own) (ok_is last.next_is)) shows

  fields_show : (number : ℕ) (fields : List StatsField) (kinds : List FieldKinds) (seen : List Column) (writing : Writing) → kinds_of_fields accepts columns fields ≡ Ok kinds → Shows writing seen
      → Shows (write_stats_fields text before number fields writing) (put_field_columns text fields kinds seen)
  fields_show number [] kinds seen writing is shows = shows
  fields_show number (stats ∷ fields) kinds seen writing is shows =
      let first = found_of (kinds_of_field accepts columns stats) (λ first. and_then (kinds_of_fields accepts columns fields) (λ rest. Ok (first ∷ rest))) kinds is in
      let rest = found_of (kinds_of_fields accepts columns fields) (λ rest. Ok (first.value ∷ rest)) kinds first.next_is in
      let number_after : ℕ = number + length (calls_of stats.field.expr) in
      let after : Writing = write_stats_field text before number stats writing in
      ap (λ these. put_field_columns text (stats ∷ fields) these seen) (sym (ok_is rest.next_is))
      ∙ fields_show number_after fields rest.value (put_column seen (name_of_stats text stats) first.value.own) after rest.is (field_shows number stats first.value seen writing first.is shows)

-- what rows are grouped by
groups_show : (text : List ℕ) (accepts : Regular → Bool) (columns : List Column) (number : ℕ) (groups : List Field) (kinds : List Kind) (seen : List Column) (visible : List OutColumn) (writing : Writing)
    → Shows writing columns → kinds_of_groups accepts columns groups ≡ Ok kinds → seen ≡ columns_of visible
    → put_group_columns text groups kinds seen ≡ columns_of (put_groups text number groups (group_inputs groups writing) visible)
groups_show text accepts columns number [] kinds seen visible writing shows is are = are
groups_show text accepts columns number (group ∷ groups) kinds seen visible writing shows is are =
    let scope = outside_scope accepts columns in
    let first = found_of (kind_or_rule group.expr scope) (λ first. and_then (kinds_of_groups accepts columns groups) (λ rest. Ok (first ∷ rest))) kinds is in
    let rest = found_of (kinds_of_groups accepts columns groups) (λ rest. Ok (first.value ∷ rest)) kinds first.next_is in
    let typed : TypedExpr = typed_in writing group.expr in
    let kinded : typed.kind ≡ first.value = expr_kinded group.expr (record { columns = writing.visible; calls = [] }) scope first.value shows first.is _ _ in
    let name : List ℕ = name_of_field text group in
    ap (λ these. put_group_columns text (group ∷ groups) these seen) (sym (ok_is rest.next_is))
    ∙ groups_show text accepts columns (number + 1) groups rest.value (put_column seen name first.value) (put_visible visible name typed.kind number) (write_input writing group.expr)
    (input_shows columns writing group.expr shows) rest.is ((λ i. put_column (are i) name (sym kinded i)) ∙ columns_put visible name typed.kind number)

pub stats_show : (text : List ℕ) (accepts : Regular → Bool) (fields : List StatsField) (groups : List Field) (columns after : List Column) (writing : Writing) → Shows writing columns
    → shape_of_stats text accepts fields groups columns ≡ Ok after → Shows (write_stats text fields groups writing) after
stats_show text accepts fields groups columns after writing shows is =
    let found = stats_shape text accepts fields groups columns after is in
    let with_arguments : Writing = write_all_before fields writing in
    let with_inputs : Writing = write_groups groups with_arguments in
    let grouping : Writing = write_grouping (all_inputs fields writing) (group_inputs groups with_arguments) with_inputs in
    let behind : Writing = write_stats_fields text writing.visible with_inputs.next fields grouping in
    sym found.next_is
    ∙ groups_show text accepts columns (with_inputs.next + length (all_inputs fields writing)) groups found.groups (put_field_columns text fields found.fields []) behind.visible with_arguments
    (before_shows columns fields writing shows) found.groups_are
    (fields_show text accepts columns writing.visible shows with_inputs.next fields found.fields [] grouping found.fields_are refl)
