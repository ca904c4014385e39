-- Each command does to rows of names what its steps do to rows of numbers.
use Rattle.std.proofs.Common.{◌≡◌, ℕ, List, [], ◌∷◌, ◌++◌, map, fold, take, Option, Some, None, Ok, refl, ap, sym, subst, ◌∙◌, append_assoc}
use Rattle.std.specs.List.{flat_map}
use Rattle.std.specs.Ordering.{ordering_then}
use Rattle.std.specs.declared.cmp.Ordering.{Ordering}
use Rattle.std.proofs.lemmas.List.{append-nil, take-map}
use Rattle.esql_types.specs.declared.names.Column.{Column}
use Rattle.esql_types.specs.declared.names.NodeId.{NodeId}
use Rattle.esql_types.specs.declared.cause.Failure.{Failure}
use Rattle.esql_ast.specs.declared.expr.Expr.{Expr}
use Rattle.esql_ast.specs.declared.query.Field.{Field}
use Rattle.esql_ast.specs.declared.query.SortKey.{SortKey}
use Rattle.esql_ast.specs.declared.query.Command.{Command}
use Rattle.esql_ast.specs.declared.query.CommandKind.{CommandKind}
use Rattle.esql_ast.specs.declared.query.CommandKind.TheVariants.{Filter, Eval, Keep, Drop, Rename, Sort, Limit, Expand, Stats, Dissect, Grok, Enrich, Join}
use Rattle.function_rules.specs.Lists.{sorted_by}
use Rattle.esql_plan.specs.declared.plan.OutColumn.{OutColumn}
use Rattle.esql_plan.specs.declared.step.Step.{Step}
use Rattle.esql_plan.specs.declared.step.Step.TheVariants as step
use Rattle.esql_plan.specs.declared.typed.TypedExpr.{TypedExpr}
use Rattle.esql_plan.specs.Values.{Valued, NumberedRow, value_of_typed}
use Rattle.plan_semantics.specs.Tables.{CatalogHeld, with_cell}
use Rattle.plan_semantics.specs.Orders.{order_of_cells, order_of_rows}
use Rattle.plan_semantics.specs.Steps.{is_true, failures_of_condition, step_gives, step_fails, step_rows, step_failures, rows_after, failures_after}
use Rattle.plan_semantics.proofs.Splits.{rows_after-append}
use Rattle.plan_semantics.proofs.Sorted.{through, sorted_mapped}
use Rattle.row_semantics.specs.Rows.{Row, put}
use Rattle.row_semantics.specs.Fields.{name_of_field}
use Rattle.row_semantics.specs.Typed.{visible_named}
use Rattle.query_semantics.specs.RowValues.{value_in_row, failures_of_expr, failures_of_rows}
use Rattle.query_semantics.specs.Commands.{row_with_field, rows_of_fields, failures_of_fields, rows_of_condition, order_by_keys, rows_of_keys, failures_of_keys, expanded_row, rows_of_kind, failures_of_kind, rows_of_commands, failures_of_commands, kept_of_row, left_of_row, renamed_row}
use Rattle.query_semantics.specs.Appended.{rows_of_enrich}
use Rattle.query_semantics.specs.AppendedShapes.{shape_of_enrich}
use Rattle.query_semantics.specs.Shapes.{Context, shape_of_kind, unless_empty, shape_of_command, shape_of_commands}
use Rattle.query_semantics.specs.WrittenAppended.{write_enrich}
use Rattle.query_semantics.specs.Writings.{Writing, column_at, put_visible, typed_in, write_input}
use Rattle.query_semantics.specs.Written.{write_field, write_fields, write_condition, write_limit, write_keys, keys_in_plan, write_sort, renumbered, write_expand_of, write_kind, write_command}
use Rattle.query_semantics.specs.Named.{named_row}
use Rattle.query_semantics.proofs.Squares.{map_square, map_map, map_same, flat_map_square, flat_map_none, flat_map_one, map-flat_map, filter_square, filter_each}
use Rattle.query_semantics.proofs.Named.{AllBelow, named_put, named_same, below_put, kept-named, left-named, renamed-named, below-places, below-renamed, expanded-named, unexpanded-named, below-renumbered}
use Rattle.query_semantics.proofs.Valued.{expr_valued}
use Rattle.query_semantics.proofs.Kinded.{found_of}
use Rattle.written_laws.proofs.AppendedStands.{dissect_stands, grok_stands, enrich_stands}
use Rattle.written_laws.proofs.Inputs.{failures_after-push, HaveInputs, InputsStand, inputs_stand}
use Rattle.written_laws.proofs.Shown.{Shows, command_shows}
use Rattle.written_laws.proofs.Standing.{Stands}
use Rattle.written_laws.proofs.StatsStands.{stats_stands}
use Rattle.written_laws.proofs.StatsWhole.{stats_whole}

-- SORT orders by keys the rows that have the inputs of the keys as it does their rows of names
abbrev pub expr_of_key : SortKey → Expr
expr_of_key key = key.expr

keys_ordered : (keys : List SortKey) (writing : Writing) (this that : Row) (these those : NumberedRow) → HaveInputs expr_of_key keys writing this these → HaveInputs expr_of_key keys writing that those
    → order_by_keys keys this that ≡ order_of_rows (keys_in_plan keys writing) these those
keys_ordered [] writing this that these those first second = refl
keys_ordered (key ∷ keys) writing this that these those first second =
    λ i. ordering_then (order_of_cells key.descending key.nulls_first (sym first.0 i) (sym second.0 i)) (keys_ordered keys (write_input writing key.expr) this that these those first.1 second.1 i)

-- one more step, on what can be seen then
module _ (held : CatalogHeld) (start : List NumberedRow) (rows : List Row) (failures : List Failure) (writing : Writing) (stands : Stands held start rows failures writing) where
  abbrev so_far : List NumberedRow
  so_far = rows_after held writing.steps start

  rows_pushed : (visible : List OutColumn) (step : Step) (after : List Row → List Row)
      → after (map (named_row writing.visible) so_far) ≡ map (named_row visible) (step_rows held step so_far)
      → after rows ≡ map (named_row visible) (rows_after held (writing.steps ++ step ∷ []) start)
  rows_pushed visible step after is = ap after stands.rows_are ∙ is ∙ ap (map (named_row visible)) (sym (rows_after-append held writing.steps (step ∷ []) start))

  failures_pushed : (step : Step) (after : List Row → List Failure)
      → after (map (named_row writing.visible) so_far) ≡ step_failures step so_far
      → failures ++ after rows ≡ failures_after held (writing.steps ++ step ∷ []) start
  failures_pushed step after is =
      (λ i. stands.failures_are i ++ (ap after stands.rows_are ∙ is) i) ∙ sym (failures_after-push held writing.steps step start)

  -- a field
  pub field_stands : (text : List ℕ) (field : Field) → Stands held start (map (row_with_field text field) rows) (failures ++ failures_of_expr field.expr rows) (write_field text writing field)
  field_stands text field =
      let typed : TypedExpr = typed_in writing field.expr in
      let name : List ℕ = name_of_field text field in
      let new : Step = step.Eval (column_at writing.next) typed in
      let visible : List OutColumn = put_visible writing.visible name typed.kind writing.next in
      let valued : (row : NumberedRow) → value_in_row field.expr (named_row writing.visible row) ≡ value_of_typed typed row = λ row. sym (expr_valued field.expr writing.visible _ _ row) in
      let one : (row : NumberedRow) → row_with_field text field (named_row writing.visible row) ≡ named_row visible (with_cell row writing.next (value_of_typed typed row).cell) =
      λ row.
      ap (λ (these : Valued). put (named_row writing.visible row) name these.cell) (valued row)
      ∙ named_put writing.visible row name typed.kind writing.next (value_of_typed typed row).cell stands.below in
      record {
        rows_are = rows_pushed visible new (map (row_with_field text field))
            (map_square (row_with_field text field) (named_row writing.visible) (named_row visible) (λ (row : NumberedRow). with_cell row writing.next (value_of_typed typed row).cell) one so_far);
        failures_are = failures_pushed new (failures_of_expr field.expr)
            (flat_map_square (λ (row : Row). (value_in_row field.expr row).failures) (named_row writing.visible) (step_fails new) (λ row. ap (λ (these : Valued). these.failures) (valued row)) so_far);
        below = below_put writing.visible name typed.kind writing.next stands.below;
      }

  -- WHERE
  pub condition_stands : (node : NodeId) (condition : Expr)
      → Stands held start (rows_of_condition condition rows) (failures ++ failures_of_rows node condition rows) (write_condition node condition writing)
  condition_stands node condition =
      let typed : TypedExpr = typed_in writing condition in
      let new : Step = step.Filter node typed in
      let valued : (row : NumberedRow) → value_in_row condition (named_row writing.visible row) ≡ value_of_typed typed row = λ row. sym (expr_valued condition writing.visible _ _ row) in
      record {
        rows_are = rows_pushed writing.visible new (rows_of_condition condition)
            (filter_square (λ (row : Row). is_true (value_in_row condition row).cell) (named_row writing.visible) (λ (row : NumberedRow). is_true (value_of_typed typed row).cell)
            (λ row. ap (λ (these : Valued). is_true these.cell) (valued row)) so_far
            ∙ ap (map (named_row writing.visible)) (filter_each (λ (row : NumberedRow). is_true (value_of_typed typed row).cell) so_far));
        failures_are = failures_pushed new (failures_of_rows node condition)
            (flat_map_square (λ (row : Row). failures_of_condition node (value_in_row condition row)) (named_row writing.visible) (step_fails new) (λ row. ap (failures_of_condition node) (valued row)) so_far);
        below = stands.below;
      }

  -- KEEP, DROP and RENAME
  seen_stands : (visible : List OutColumn) (of_row : Row → Row) → ((row : NumberedRow) → of_row (named_row writing.visible row) ≡ named_row visible row) → AllBelow writing.next visible
      → Stands held start (map of_row rows) (failures ++ []) (record writing { visible = visible })
  seen_stands visible of_row one below = record {
    rows_are = ap (map of_row) stands.rows_are ∙ map_map of_row (named_row writing.visible) so_far ∙ map_same (λ (row : NumberedRow). of_row (named_row writing.visible row)) (named_row visible) one so_far;
    failures_are = append-nil failures ∙ stands.failures_are;
    below = below;
  }

  -- LIMIT
  pub limit_stands : (count : ℕ) → Stands held start (take count rows) (failures ++ []) (write_limit count writing)
  limit_stands count = record {
    rows_are = rows_pushed writing.visible (step.Limit count) (take count) (take-map (named_row writing.visible) count so_far);
    failures_are = failures_pushed (step.Limit count) (λ these. []) (sym (flat_map_none (step_fails (step.Limit count)) (λ row. refl) so_far));
    below = stands.below;
  }

  -- SORT
  pub sort_stands : (keys : List SortKey) → Stands held start (rows_of_keys keys rows) (failures ++ failures_of_keys keys rows) (write_sort keys writing)
  sort_stands keys =
      let inputs : InputsStand expr_of_key held writing.visible keys writing = inputs_stand expr_of_key held writing.visible keys writing refl stands.below in
      let after : Writing = write_keys keys writing in
      let sort : Step = step.Sort (keys_in_plan keys writing) in
      let named : NumberedRow → Row = named_row writing.visible in
      let order : NumberedRow → NumberedRow → Ordering = order_of_rows (keys_in_plan keys writing) in
      let seen : (row : NumberedRow) → named (inputs.become row) ≡ named row = λ row. named_same writing.next writing.visible row (inputs.become row) stands.below (inputs.same row) in
      let sorted : List NumberedRow = sorted_by (through order inputs.become) so_far in
      record {
        rows_are = ap (rows_of_keys keys) stands.rows_are
            ∙ sym (sorted_mapped (order_by_keys keys) named so_far)
            ∙ (λ i. map named (sorted_by (λ this that. keys_ordered keys writing (named this) (named that) (inputs.become this) (inputs.become that) (inputs.inputs this) (inputs.inputs that) i) so_far))
            ∙ sym (map_map named inputs.become sorted ∙ map_same (λ (row : NumberedRow). named (inputs.become row)) named seen sorted)
            ∙ ap (map named) (sorted_mapped order inputs.become so_far)
            ∙ (λ i. map (named_row (sym inputs.visible_is i)) (sorted_by order (sym (inputs.rows start) i)))
            ∙ ap (map (named_row after.visible)) (sym (rows_after-append held after.steps (sort ∷ []) start));
        failures_are = (λ i. stands.failures_are i ++ failures_of_keys keys (stands.rows_are i))
            ∙ sym (inputs.failures start)
            ∙ sym (append-nil (failures_after held after.steps start))
            ∙ ap (λ (these : List Failure). failures_after held after.steps start ++ these) (sym (flat_map_none (step_fails sort) (λ row. refl) (rows_after held after.steps start)))
            ∙ sym (failures_after-push held after.steps sort start);
        below = subst (AllBelow after.next) (sym inputs.visible_is) inputs.below;
      }

  -- MV_EXPAND
  pub expand_stands : (name : List ℕ) (found : Option OutColumn) → visible_named writing.visible name ≡ found
      → Stands held start (flat_map (expanded_row name) rows) (failures ++ []) (write_expand_of found name writing)
  expand_stands name None is = record {
    rows_are = ap (flat_map (expanded_row name)) stands.rows_are
        ∙ flat_map_square (expanded_row name) (named_row writing.visible) (λ (row : NumberedRow). named_row writing.visible row ∷ []) (λ row. unexpanded-named writing.visible name row is) so_far
        ∙ flat_map_one (named_row writing.visible) so_far;
    failures_are = append-nil failures ∙ stands.failures_are;
    below = stands.below;
  }
  expand_stands name (Some column) is =
      let new : Step = step.Expand column.id (column_at writing.next) in
      let visible : List OutColumn = map (renumbered name writing.next) writing.visible in
      record {
        rows_are = rows_pushed visible new (flat_map (expanded_row name))
            (flat_map_square (expanded_row name) (named_row writing.visible) (λ (row : NumberedRow). map (named_row visible) (step_gives held new row))
            (λ row. expanded-named writing.visible name column writing.next row stands.below is) so_far
            ∙ sym (map-flat_map (named_row visible) (step_gives held new) so_far));
        failures_are = failures_pushed new (λ these. []) (sym (flat_map_none (step_fails new) (λ row. refl) so_far));
        below = below-renumbered name writing.next writing.visible stands.below;
      }

  unbuilt_stands : Stands held start rows (failures ++ []) writing
  unbuilt_stands = record { rows_are = stands.rows_are; failures_are = append-nil failures ∙ stands.failures_are; below = stands.below }

-- fields in turn
pub fields_stand : (text : List ℕ) (held : CatalogHeld) (start : List NumberedRow) (fields : List Field) (rows : List Row) (failures : List Failure) (writing : Writing) → Stands held start rows failures writing
    → Stands held start (rows_of_fields text fields rows) (failures ++ failures_of_fields text fields rows) (write_fields text fields writing)
fields_stand text held start [] rows failures writing stands = unbuilt_stands held start rows failures writing stands
fields_stand text held start (field ∷ fields) rows failures writing stands =
    subst (λ these. Stands held start (rows_of_fields text (field ∷ fields) rows) these (write_fields text (field ∷ fields) writing))
    (append_assoc failures (failures_of_expr field.expr rows) (failures_of_fields text fields (map (row_with_field text field) rows)))
    (fields_stand text held start fields (map (row_with_field text field) rows) (failures ++ failures_of_expr field.expr rows) (write_field text writing field)
    (field_stands held start rows failures writing stands text field))

-- a command that breaks no rule
pub kind_stands : (context : Context) (held : CatalogHeld) (start : List NumberedRow) → context.catalog.policies ≡ held.policies → (node : NodeId) (kind : CommandKind) (columns after : List Column)
    → (rows : List Row) (failures : List Failure) (writing : Writing) → Shows writing columns → shape_of_kind context kind columns ≡ Ok after → Stands held start rows failures writing
    → Stands held start (rows_of_kind context.text held node kind rows) (failures ++ failures_of_kind context.text node kind rows) (write_kind context.text context.catalog.policies node kind writing)
kind_stands context held start policies node (Filter condition) columns after rows failures writing shows is stands = condition_stands held start rows failures writing stands node condition
kind_stands context held start policies node (Eval fields) columns after rows failures writing shows is stands = fields_stand context.text held start fields rows failures writing stands
kind_stands context held start policies node (Keep patterns) columns after rows failures writing shows is stands =
    seen_stands held start rows failures writing stands _ (kept_of_row patterns) (kept-named patterns writing.visible) (below-places writing.next _ writing.visible stands.below)
kind_stands context held start policies node (Drop patterns) columns after rows failures writing shows is stands =
    seen_stands held start rows failures writing stands _ (left_of_row patterns) (left-named patterns writing.visible) (below-places writing.next _ writing.visible stands.below)
kind_stands context held start policies node (Rename pairs) columns after rows failures writing shows is stands =
    seen_stands held start rows failures writing stands _ (renamed_row pairs) (renamed-named pairs writing.visible) (below-renamed writing.next _ writing.visible stands.below)
kind_stands context held start policies node (Limit count) columns after rows failures writing shows is stands = limit_stands held start rows failures writing stands count
kind_stands context held start policies node (Sort keys) columns after rows failures writing shows is stands = sort_stands held start rows failures writing stands keys
kind_stands context held start policies node (Expand column) columns after rows failures writing shows is stands =
    expand_stands held start rows failures writing stands column.name (visible_named writing.visible column.name) refl
kind_stands context held start policies node (Stats fields groups) columns after rows failures writing shows is stands =
    stats_stands held start rows failures writing stands fields groups (stats_whole context.text context.accepts fields groups columns after is) context.text
kind_stands context held start policies node (Dissect input pattern separator) columns after rows failures writing shows is stands =
    dissect_stands held start rows failures writing stands node input pattern.text separator
kind_stands context held start policies node (Grok input pattern) columns after rows failures writing shows is stands = grok_stands held start rows failures writing stands node input pattern.text
kind_stands context held start policies node (Enrich policy on fields) columns after rows failures writing shows is stands =
    subst (λ these. Stands held start (rows_of_enrich held policy on fields rows) (failures ++ []) (write_enrich these policy on fields writing)) (sym policies)
    (enrich_stands held start rows failures writing stands policy on fields columns after shows (subst (λ these. shape_of_enrich these policy on fields columns ≡ Ok after) policies is))
kind_stands context held start policies node (Join table on) columns after rows failures writing shows is stands = unbuilt_stands held start rows failures writing stands

-- commands in turn
pub commands_stand : (context : Context) (held : CatalogHeld) (start : List NumberedRow) → context.catalog.policies ≡ held.policies → (commands : List Command) (columns after : List Column)
    → (rows : List Row) (failures : List Failure) (writing : Writing) → Shows writing columns → shape_of_commands context commands columns ≡ Ok after → Stands held start rows failures writing
    → Stands held start (rows_of_commands context.text held commands rows) (failures ++ failures_of_commands context.text held commands rows)
    (fold (write_command context.text context.catalog.policies) writing commands)
commands_stand context held start policies [] columns after rows failures writing shows is stands = unbuilt_stands held start rows failures writing stands
commands_stand context held start policies (command ∷ commands) columns after rows failures writing shows is stands =
    let found = found_of (shape_of_command context command columns) (shape_of_commands context commands) after is in
    let own = found_of (shape_of_kind context command.kind columns) (unless_empty command.span) found.value found.is in
    let text : List ℕ = context.text in
    let next : List Row = rows_of_kind text held command.node command.kind rows in
    let fails : List Failure = failures_of_kind text command.node command.kind rows in
    subst (λ these. Stands held start (rows_of_commands text held commands next) these (fold (write_command text context.catalog.policies) writing (command ∷ commands)))
    (append_assoc failures fails (failures_of_commands text held commands next))
    (commands_stand context held start policies commands found.value after next (failures ++ fails) (write_command text context.catalog.policies writing command)
    (command_shows context command columns found.value writing shows found.is) found.next_is
    (kind_stands context held start policies command.node command.kind columns own.value rows failures writing shows own.is stands))
