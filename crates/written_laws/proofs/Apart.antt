-- The columns of a query differ in their names.
use Rattle.std.proofs.Common.{◌≡◌, ℕ, List, [], ◌∷◌, Some, Ok, sym, subst}
use Rattle.std.proofs.lemmas.List.{map-append}
use Rattle.esql_types.specs.declared.names.Column.{Column}
use Rattle.esql_types.specs.declared.value.Kind.{Kind}
use Rattle.esql_ast.specs.declared.query.Field.{Field}
use Rattle.esql_ast.specs.declared.query.StatsField.{StatsField}
use Rattle.esql_ast.specs.declared.query.Query.{Query}
use Rattle.esql_ast.specs.declared.query.Command.{Command}
use Rattle.esql_ast.specs.declared.query.CommandKind.{CommandKind}
use Rattle.esql_ast.specs.declared.query.CommandKind.TheVariants.{Filter, Eval, Keep, Drop, Rename, Sort, Limit, Expand, Stats, Dissect, Grok, Enrich, Join}
use Rattle.esql_ast.specs.declared.query.SourceCommand.{SourceCommand}
use Rattle.esql_ast.specs.declared.query.SourceCommand.TheVariants.{Tables, OneRow}
use Rattle.name_rules.specs.NameRules.{first_unmet, first_missing}
use Rattle.esql_plan.specs.declared.catalog.Catalog.{Catalog}
use Rattle.plan_semantics.specs.Taken.{columns_of_reading, columns_of_grok}
use Rattle.row_semantics.specs.Fields.{name_of_field}
use Rattle.row_semantics.specs.Kinds.{kind_or_rule}
use Rattle.row_semantics.specs.Columns.{names_of, HaveDistinctNames, put_column, without_column}
use Rattle.row_semantics.specs.Regulars.{is_accepted}
use Rattle.row_semantics.specs.Sources.{columns_of_tables}
use Rattle.query_semantics.specs.Appended.{put_columns, fields_taken, taken_columns}
use Rattle.query_semantics.specs.Shapes.{Context, scope_over, shape_of_field, shape_of_fields, shape_of_kind, unless_empty, shape_of_command, shape_of_commands, shape_of_source, shape_of}
use Rattle.query_semantics.specs.Stats.{name_of_stats}
use Rattle.query_semantics.specs.StatsShapes.{FieldKinds, put_field_columns, put_group_columns}
use Rattle.query_semantics.proofs.Kinded.{found_of, ok_is}
use Rattle.written_laws.proofs.AppendedJudged.{dissect_judged, grok_judged, enrich_judged}
use Rattle.written_laws.proofs.Shown.{unmet_is, missing_is, empty_is, condition_shows, keys_leave, expand_leaves}
use Rattle.written_laws.proofs.StatsWhole.{stats_shape}
use Rattle.query_semantics.proofs.Distinct.{AreDistinct, distinct_nil, distinct_put}
use Rattle.written_laws.proofs.NamesKept.{columns_keep, columns_drop, columns_rename}
use Rattle.query_semantics.proofs.Ordered.{tables_distinct}

-- names that differ -----------------------------------------------------------------------------------------------------

pub same_distinct : (columns after : List Column) → columns ≡ after → HaveDistinctNames columns → HaveDistinctNames after
same_distinct columns after is distinct = subst HaveDistinctNames is distinct

put_distinct : (columns : List Column) (name : List ℕ) (kind : Kind) → HaveDistinctNames columns → HaveDistinctNames (put_column columns name kind)
put_distinct columns name kind distinct =
    subst AreDistinct (sym (map-append (λ (column : Column). column.name) (without_column columns name) (record { name = name; kind = kind } ∷ [])))
    (distinct_put (λ (column : Column). column.name) name columns distinct)

columns_distinct : (columns new : List Column) → HaveDistinctNames columns → HaveDistinctNames (put_columns columns new)
columns_distinct columns [] distinct = distinct
columns_distinct columns (first ∷ new) distinct = columns_distinct (put_column columns first.name first.kind) new (put_distinct columns first.name first.kind distinct)

fields_distinct : (context : Context) (fields : List Field) (columns after : List Column) → HaveDistinctNames columns → shape_of_fields context fields columns ≡ Ok after → HaveDistinctNames after
fields_distinct context [] columns after distinct is = same_distinct columns after (ok_is is) distinct
fields_distinct context (field ∷ fields) columns after distinct is =
    let found = found_of (shape_of_field context field columns) (shape_of_fields context fields) after is in
    let one = found_of (kind_or_rule field.expr (scope_over context columns)) (λ kind. Ok (put_column columns (name_of_field context.text field) kind)) found.value found.is in
    fields_distinct context fields found.value after
    (same_distinct _ found.value (ok_is one.next_is) (put_distinct columns (name_of_field context.text field) one.value distinct)) found.next_is

field_columns_distinct : (text : List ℕ) (fields : List StatsField) (kinds : List FieldKinds) (columns : List Column) → HaveDistinctNames columns → HaveDistinctNames (put_field_columns text fields kinds columns)
field_columns_distinct text [] kinds columns distinct = distinct
field_columns_distinct text (stats ∷ fields) [] columns distinct = distinct
field_columns_distinct text (stats ∷ fields) (first ∷ kinds) columns distinct =
    field_columns_distinct text fields kinds (put_column columns (name_of_stats text stats) first.own) (put_distinct columns (name_of_stats text stats) first.own distinct)

group_columns_distinct : (text : List ℕ) (groups : List Field) (kinds : List Kind) (columns : List Column) → HaveDistinctNames columns → HaveDistinctNames (put_group_columns text groups kinds columns)
group_columns_distinct text [] kinds columns distinct = distinct
group_columns_distinct text (group ∷ groups) [] columns distinct = distinct
group_columns_distinct text (group ∷ groups) (first ∷ kinds) columns distinct =
    group_columns_distinct text groups kinds (put_column columns (name_of_field text group) first) (put_distinct columns (name_of_field text group) first distinct)

pub kind_distinct : (context : Context) (kind : CommandKind) (columns after : List Column) → HaveDistinctNames columns → shape_of_kind context kind columns ≡ Ok after → HaveDistinctNames after
kind_distinct context (Filter condition) columns after distinct is = same_distinct columns after (condition_shows context condition columns after is) distinct
kind_distinct context (Eval fields) columns after distinct is = fields_distinct context fields columns after distinct is
kind_distinct context (Keep patterns) columns after distinct is =
    same_distinct _ after (unmet_is (first_unmet (names_of columns) patterns) _ after is) (columns_keep columns patterns distinct)
kind_distinct context (Drop patterns) columns after distinct is =
    same_distinct _ after (unmet_is (first_unmet (names_of columns) patterns) _ after is) (columns_drop columns patterns distinct)
kind_distinct context (Rename pairs) columns after distinct is =
    same_distinct _ after (missing_is (first_missing (names_of columns) pairs) _ after is) (columns_rename columns pairs distinct)
kind_distinct context (Limit count) columns after distinct is = same_distinct columns after (ok_is is) distinct
kind_distinct context (Sort keys) columns after distinct is = same_distinct columns after (keys_leave context keys columns after is) distinct
kind_distinct context (Expand column) columns after distinct is = same_distinct columns after (expand_leaves column columns after is) distinct
kind_distinct context (Stats fields groups) columns after distinct is =
    let found = stats_shape context.text context.accepts fields groups columns after is in
    same_distinct _ after found.next_is (group_columns_distinct context.text groups found.groups _ (field_columns_distinct context.text fields found.fields [] distinct_nil))
kind_distinct context (Dissect input pattern separator) columns after distinct is =
    let judged = dissect_judged context.accepts columns input pattern separator after is in
    same_distinct _ after judged.next_is (columns_distinct columns (columns_of_reading (Some judged.reading)) distinct)
kind_distinct context (Grok input pattern) columns after distinct is =
    let judged = grok_judged context.accepts columns input pattern after is in
    same_distinct _ after judged.next_is (columns_distinct columns (columns_of_grok (Some judged.reading)) distinct)
kind_distinct context (Enrich policy on fields) columns after distinct is =
    let judged = enrich_judged columns on fields after context.catalog.policies policy is in
    same_distinct _ after judged.next_is (columns_distinct columns (taken_columns (fields_taken judged.found.shape.fields fields)) distinct)
kind_distinct context (Join table on) columns after distinct is = same_distinct columns after (ok_is is) distinct

commands_distinct : (context : Context) (commands : List Command) (columns after : List Column) → HaveDistinctNames columns → shape_of_commands context commands columns ≡ Ok after → HaveDistinctNames after
commands_distinct context [] columns after distinct is = same_distinct columns after (ok_is is) distinct
commands_distinct context (command ∷ commands) columns after distinct is =
    let found = found_of (shape_of_command context command columns) (shape_of_commands context commands) after is in
    let own = found_of (shape_of_kind context command.kind columns) (unless_empty command.span) found.value found.is in
    commands_distinct context commands found.value after
    (same_distinct own.value found.value (empty_is command.span own.value found.value own.next_is) (kind_distinct context command.kind columns own.value distinct own.is)) found.next_is

pub source_distinct : (context : Context) (source : SourceCommand) (columns : List Column) → shape_of_source context source ≡ Ok columns → HaveDistinctNames columns
source_distinct context (Tables node span names) columns is =
    let found = found_of (columns_of_tables context.catalog.tables names) (unless_empty span) columns is in
    same_distinct found.value columns (empty_is span found.value columns found.next_is) (tables_distinct context.catalog.tables names found.value found.is)
source_distinct context (OneRow node span fields) columns is = fields_distinct context fields [] columns distinct_nil is

pub names_distinct : (text : List ℕ) (catalog : Catalog) (query : Query) (columns : List Column) → shape_of text catalog query ≡ Ok columns → HaveDistinctNames columns
names_distinct text catalog query columns is =
    let context : Context = record { text = text; catalog = catalog; accepts = is_accepted } in
    let found = found_of (shape_of_source context query.source) (shape_of_commands context query.commands) columns is in
    commands_distinct context query.commands found.value columns (source_distinct context query.source found.value found.is) found.next_is
