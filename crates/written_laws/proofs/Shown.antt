-- The columns that can be seen after what has been written are those of the shape.
use Rattle.std.proofs.Common.{◌≡◌, ℕ, ◌+◌, Bool, true, false, cond, List, [], ◌∷◌, fold, Option, Some, None, Ok, Err, refl, ap, sym, subst, ◌∙◌}
use Rattle.esql_types.specs.declared.names.Column.{Column}
use Rattle.esql_types.specs.declared.names.NodeId.{NodeId}
use Rattle.esql_types.specs.declared.value.Kind.TheVariants as kind
use Rattle.esql_types.specs.declared.places.Span.{Span}
use Rattle.esql_ast.specs.declared.expr.Expr.{Expr}
use Rattle.esql_ast.specs.declared.query.EnrichItem.{EnrichItem}
use Rattle.esql_ast.specs.declared.query.Field.{Field}
use Rattle.esql_ast.specs.declared.query.NameAt.{NameAt}
use Rattle.esql_ast.specs.declared.query.SortKey.{SortKey}
use Rattle.esql_ast.specs.declared.query.NamePattern.{NamePattern}
use Rattle.esql_ast.specs.declared.query.RenamePair.{RenamePair}
use Rattle.esql_ast.specs.declared.query.Command.{Command}
use Rattle.esql_ast.specs.declared.query.CommandKind.{CommandKind}
use Rattle.esql_ast.specs.declared.query.CommandKind.TheVariants.{Filter, Eval, Keep, Drop, Rename, Sort, Limit, Expand, Stats, Dissect, Grok, Enrich, Join}
use Rattle.esql_ast.specs.declared.query.SourceCommand.{SourceCommand}
use Rattle.esql_ast.specs.declared.query.SourceCommand.TheVariants.{Tables, OneRow}
use Rattle.name_rules.specs.NameRules.{first_unmet, first_missing, keep_places, drop_places, at_places, renamings, renamed_by}
use Rattle.esql_plan.specs.declared.plan.OutColumn.{OutColumn}
use Rattle.esql_plan.specs.Signatures.{is_kind}
use Rattle.dissect_grok.specs.Patterns.{Reading}
use Rattle.dissect_grok.specs.Groks.{GrokRead}
use Rattle.plan_semantics.specs.Plans.{columns_of}
use Rattle.plan_semantics.specs.Taken.{dissect_columns, columns_of_reading, columns_in_grok, columns_of_grok}
use Rattle.row_semantics.specs.Scopes.{Broken, Scope, column_named}
use Rattle.row_semantics.specs.Kinds.{kind_of_column, kind_or_rule}
use Rattle.row_semantics.specs.Fields.{name_of_field}
use Rattle.row_semantics.specs.Columns.{names_of, put_column, column_as}
use Rattle.row_semantics.specs.Sources.{columns_of_tables, columns_or_none}
use Rattle.row_semantics.specs.Typed.{visible_named}
use Rattle.query_semantics.specs.Appended.{FoundPolicy, put_columns, matched_name, matched_at, FieldTaken, fields_taken, taken_columns}
use Rattle.query_semantics.specs.AppendedShapes.{shape_of_enrich}
use Rattle.query_semantics.specs.Shapes.{Context, Shape, scope_over, shape_of_field, shape_of_fields, shape_of_condition, unless_unmet, unless_missing, shape_of_keys, shape_of_expand, shape_of_kind, unless_empty, shape_of_command, shape_of_commands, shape_of_source}
use Rattle.query_semantics.specs.Writings.{Writing, put_visible, typed_in, write_input}
use Rattle.query_semantics.specs.WrittenAppended.{put_new, write_matched, write_policy, write_enrich}
use Rattle.query_semantics.specs.Written.{write_field, write_fields, write_keys, write_expand_of, write_kind, write_command, write_source, writing_of_columns}
use Rattle.query_semantics.proofs.Named.{columns_put, columns-kept, columns-left, columns-renamed, columns-renumbered}
use Rattle.query_semantics.proofs.Kinded.{found_of, ok_is, expr_kinded}
use Rattle.query_semantics.proofs.Named.{columns_of-numbered}
pub use Rattle.written_laws.proofs.StatsShown.{Shows, input_shows}
use Rattle.written_laws.proofs.StatsShown.{stats_show}
use Rattle.written_laws.proofs.AppendedJudged.{dissect_judged, grok_judged, IsSeen, named_seen, enrich_judged}

pub unmet_is : (unmet : Option NamePattern) (columns after : List Column) → unless_unmet unmet columns ≡ Ok after → columns ≡ after
unmet_is None columns after is = ok_is is
unmet_is (Some pattern) columns after is = absurd cc

pub missing_is : (missing : Option RenamePair) (columns after : List Column) → unless_missing missing columns ≡ Ok after → columns ≡ after
missing_is None columns after is = ok_is is
missing_is (Some pair) columns after is = absurd cc

pub empty_is : (span : Span) (columns after : List Column) → unless_empty span columns ≡ Ok after → columns ≡ after
empty_is span [] after is = absurd cc
empty_is span (column ∷ columns) after is = ok_is is

either_is : (truth : Bool) (broken : Broken) (columns after : List Column) → ◌≡◌ {A = Shape} (cond truth (Ok columns) (Err broken)) (Ok after) → columns ≡ after
either_is true broken columns after is = ok_is is
either_is false broken columns after is = absurd cc

-- a field
pub field_shows : (context : Context) (field : Field) (columns after : List Column) (writing : Writing) → Shows writing columns → shape_of_field context field columns ≡ Ok after
    → Shows (write_field context.text writing field) after
field_shows context field columns after writing shows is =
    let scope : Scope = scope_over context columns in
    let name : List ℕ = name_of_field context.text field in
    let found = found_of (kind_or_rule field.expr scope) (λ kind. Ok (put_column columns name kind)) after is in
    let kinded : (typed_in writing field.expr).kind ≡ found.value =
    expr_kinded field.expr (record { columns = writing.visible; calls = [] }) scope found.value shows found.is _ _ in
    sym (ok_is found.next_is)
    ∙ (λ i. put_column (shows i) name (sym kinded i))
    ∙ columns_put writing.visible name (typed_in writing field.expr).kind writing.next

pub fields_show : (context : Context) (fields : List Field) (columns after : List Column) (writing : Writing) → Shows writing columns → shape_of_fields context fields columns ≡ Ok after
    → Shows (write_fields context.text fields writing) after
fields_show context [] columns after writing shows is = sym (ok_is is) ∙ shows
fields_show context (field ∷ fields) columns after writing shows is =
    let found = found_of (shape_of_field context field columns) (shape_of_fields context fields) after is in
    fields_show context fields found.value after (write_field context.text writing field) (field_shows context field columns found.value writing shows found.is) found.next_is

pub condition_shows : (context : Context) (condition : Expr) (columns after : List Column) → shape_of_condition context condition columns ≡ Ok after → columns ≡ after
condition_shows context condition columns after is =
    let found = found_of (kind_or_rule condition (scope_over context columns)) _ after is in
    either_is (is_kind kind.Boolean found.value) _ columns after found.next_is

-- inputs are not seen
keys_show : (keys : List SortKey) (columns : List Column) (writing : Writing) → Shows writing columns → Shows (write_keys keys writing) columns
keys_show [] columns writing shows = shows
keys_show (key ∷ keys) columns writing shows = keys_show keys columns (write_input writing key.expr) (input_shows columns writing key.expr shows)

expand_shows : (name : List ℕ) (columns : List Column) (writing : Writing) (found : Option OutColumn) → Shows writing columns → Shows (write_expand_of found name writing) columns
expand_shows name columns writing None shows = shows
expand_shows name columns writing (Some column) shows = shows ∙ sym (columns-renumbered name writing.next writing.visible)

-- SORT and MV_EXPAND leave the columns
pub keys_leave : (context : Context) (keys : List SortKey) (columns after : List Column) → shape_of_keys context keys columns ≡ Ok after → columns ≡ after
keys_leave context [] columns after is = ok_is is
keys_leave context (key ∷ keys) columns after is =
    let found = found_of (kind_or_rule key.expr (scope_over context columns)) (λ kind. shape_of_keys context keys columns) after is in
    keys_leave context keys columns after found.next_is

pub expand_leaves : (column : NameAt) (columns after : List Column) → shape_of_expand column columns ≡ Ok after → columns ≡ after
expand_leaves column columns after is = ok_is (found_of (kind_of_column (column_named columns column.name) column.span) (λ kind. Ok columns) after is).next_is

-- DISSECT, GROK and ENRICH
columns-new : (new : List Column) (visible : List OutColumn) (next : ℕ) → put_columns (columns_of visible) new ≡ columns_of (put_new visible new next)
columns-new [] visible next = refl
columns-new (column ∷ new) visible next =
    ap (λ (these : List Column). put_columns these new) (columns_put visible column.name column.kind next) ∙ columns-new new (put_visible visible column.name column.kind next) (next + 1)

enrich_shows : (context : Context) (columns after : List Column) (writing : Writing) → Shows writing columns → (policy : NameAt) (on : Option NameAt) (items : Option (List EnrichItem))
    → shape_of_enrich context.catalog.policies policy on items columns ≡ Ok after → Shows (write_enrich context.catalog.policies policy on items writing) after
enrich_shows context columns after writing shows policy on items is =
    let judged = enrich_judged columns on items after context.catalog.policies policy is in
    let taken : List FieldTaken = fields_taken judged.found.shape.fields items in
    let name : List ℕ = matched_name judged.found.shape on in
    let seen : IsSeen writing.visible name judged.kind =
    named_seen writing.visible name (matched_at policy on) judged.kind (subst (λ (these : List Column). kind_of_column (column_named these name) (matched_at policy on) ≡ Ok judged.kind) shows judged.is) in
    sym judged.next_is
    ∙ ap (λ (these : List Column). put_columns these (taken_columns taken)) shows
    ∙ columns-new (taken_columns taken) writing.visible writing.next
    ∙ ap (λ (column : Option OutColumn). columns_of (write_matched judged.found column taken writing).visible) (sym seen.is)
    ∙ ap (λ (found : Option FoundPolicy). columns_of (write_policy found on items writing).visible) (sym judged.named)

-- a command
pub kind_shows : (context : Context) (node : NodeId) (kind : CommandKind) (columns after : List Column) (writing : Writing) → Shows writing columns → shape_of_kind context kind columns ≡ Ok after
    → Shows (write_kind context.text context.catalog.policies node kind writing) after
kind_shows context node (Filter condition) columns after writing shows is = sym (condition_shows context condition columns after is) ∙ shows
kind_shows context node (Eval fields) columns after writing shows is = fields_show context fields columns after writing shows is
kind_shows context node (Keep patterns) columns after writing shows is =
    sym (unmet_is (first_unmet (names_of columns) patterns) _ after is)
    ∙ ap (λ (these : List Column). at_places (keep_places (names_of these) patterns) these) shows
    ∙ columns-kept patterns writing.visible
kind_shows context node (Drop patterns) columns after writing shows is =
    sym (unmet_is (first_unmet (names_of columns) patterns) _ after is)
    ∙ ap (λ (these : List Column). at_places (drop_places (names_of these) patterns) these) shows
    ∙ columns-left patterns writing.visible
kind_shows context node (Rename pairs) columns after writing shows is =
    sym (missing_is (first_missing (names_of columns) pairs) _ after is)
    ∙ ap (λ (these : List Column). renamed_by column_as (renamings (names_of these) pairs) these) shows
    ∙ columns-renamed pairs writing.visible
kind_shows context node (Limit count) columns after writing shows is = sym (ok_is is) ∙ shows
kind_shows context node (Sort keys) columns after writing shows is = sym (keys_leave context keys columns after is) ∙ keys_show keys columns writing shows
kind_shows context node (Expand column) columns after writing shows is =
    sym (expand_leaves column columns after is) ∙ expand_shows column.name columns writing (visible_named writing.visible column.name) shows
kind_shows context node (Stats fields groups) columns after writing shows is = stats_show context.text context.accepts fields groups columns after writing shows is
kind_shows context node (Dissect input pattern separator) columns after writing shows is =
    let judged = dissect_judged context.accepts columns input pattern separator after is in
    let next : Writing = write_input writing input in
    sym (ap (λ (read : Option Reading). put_columns columns (columns_of_reading read)) judged.read ∙ judged.next_is)
    ∙ ap (λ (these : List Column). put_columns these (dissect_columns pattern.text separator)) (input_shows columns writing input shows)
    ∙ columns-new (dissect_columns pattern.text separator) next.visible next.next
kind_shows context node (Grok input pattern) columns after writing shows is =
    let judged = grok_judged context.accepts columns input pattern after is in
    let next : Writing = write_input writing input in
    sym (ap (λ (read : Option GrokRead). put_columns columns (columns_of_grok read)) judged.read ∙ judged.next_is)
    ∙ ap (λ (these : List Column). put_columns these (columns_in_grok pattern.text)) (input_shows columns writing input shows)
    ∙ columns-new (columns_in_grok pattern.text) next.visible next.next
kind_shows context node (Enrich policy on fields) columns after writing shows is = enrich_shows context columns after writing shows policy on fields is
kind_shows context node (Join table on) columns after writing shows is = sym (ok_is is) ∙ shows

pub command_shows : (context : Context) (command : Command) (columns after : List Column) (writing : Writing) → Shows writing columns → shape_of_command context command columns ≡ Ok after
    → Shows (write_command context.text context.catalog.policies writing command) after
command_shows context command columns after writing shows is =
    let found = found_of (shape_of_kind context command.kind columns) (unless_empty command.span) after is in
    sym (empty_is command.span found.value after found.next_is) ∙ kind_shows context command.node command.kind columns found.value writing shows found.is

pub commands_show : (context : Context) (commands : List Command) (columns after : List Column) (writing : Writing) → Shows writing columns → shape_of_commands context commands columns ≡ Ok after
    → Shows (fold (write_command context.text context.catalog.policies) writing commands) after
commands_show context [] columns after writing shows is = sym (ok_is is) ∙ shows
commands_show context (command ∷ commands) columns after writing shows is =
    let found = found_of (shape_of_command context command columns) (shape_of_commands context commands) after is in
    commands_show context commands found.value after (write_command context.text context.catalog.policies writing command) (command_shows context command columns found.value writing shows found.is) found.next_is

-- the source
pub source_shows : (context : Context) (command : SourceCommand) (after : List Column) → shape_of_source context command ≡ Ok after → Shows (write_source context.text context.catalog command) after
source_shows context (Tables node span names) after is =
    let found = found_of (columns_of_tables context.catalog.tables names) (unless_empty span) after is in
    sym (empty_is span found.value after found.next_is)
    ∙ sym (columns_of-numbered 0 found.value)
    ∙ ap (λ (these : Shape). columns_of (writing_of_columns (columns_or_none these)).visible) (sym found.is)
source_shows context (OneRow node span fields) after is = fields_show context fields [] after (writing_of_columns []) refl is
