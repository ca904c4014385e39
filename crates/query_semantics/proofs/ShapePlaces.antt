-- The first rule that a query breaks stands in a part of its text.
use Rattle.std.proofs.Common.{ℕ, Bool, true, false, cond, List, [], ◌∷◌, All, Option, Some, None, IfSome, Ok}
use Rattle.std.specs.Prelude.{fold}
use Rattle.std.specs.List.{flat_map, find, list_any}
use Rattle.std.proofs.lemmas.List.Elements.{All-head, All-tail}
use Rattle.esql_types.specs.declared.places.Span.{Span}
use Rattle.esql_types.specs.declared.value.Kind.{Kind}
use Rattle.esql_types.specs.declared.value.Kind.TheVariants as kind
use Rattle.esql_types.specs.declared.names.Column.{Column}
use Rattle.esql_types.specs.Spans.{SpanFits}
use Rattle.esql_types.proofs.Lists.{All-front, All-back}
use Rattle.esql_ast.specs.declared.nodes.NodeAt.{NodeAt}
use Rattle.esql_ast.specs.declared.query.Condition.{Condition}
use Rattle.esql_ast.specs.declared.query.Field.{Field}
use Rattle.esql_ast.specs.declared.query.StatsField.{StatsField}
use Rattle.esql_ast.specs.declared.query.NameAt.{NameAt}
use Rattle.esql_ast.specs.declared.query.NamePattern.{NamePattern}
use Rattle.esql_ast.specs.declared.query.RenamePair.{RenamePair}
use Rattle.esql_ast.specs.declared.query.SortKey.{SortKey}
use Rattle.esql_ast.specs.declared.query.Query.{Query}
use Rattle.esql_ast.specs.declared.query.Command.{Command}
use Rattle.esql_ast.specs.declared.query.CommandKind.{CommandKind}
use Rattle.esql_ast.specs.declared.query.CommandKind.TheVariants.{Filter, Eval, Keep, Drop, Rename, Sort, Limit, Expand, Stats, Dissect, Grok, Enrich, Join}
use Rattle.esql_ast.specs.declared.query.SourceCommand.{SourceCommand}
use Rattle.esql_ast.specs.declared.query.SourceCommand.TheVariants.{Tables, OneRow}
use Rattle.esql_ast.specs.declared.expr.Expr.{Expr}
use Rattle.esql_ast.specs.Fits.{ExprFits, NameFits, PatternFits, PairFits, FieldFits, FieldsFit, ConditionFits, StatsFits, KeyFits, KindFits, SourceFits, QueryFits}
use Rattle.esql_ast.specs.Nodes.{nodes_of_kind, nodes_of_command, nodes_of_source}
use Rattle.name_rules.specs.NameRules.{is_unmet, first_missing_of, is_there, with_pair, placed}
use Rattle.esql_ast.proofs.PartsFit.{own_span_fits}
use Rattle.esql_plan.specs.declared.catalog.TableShape.{TableShape}
use Rattle.esql_plan.specs.Signatures.{is_kind}
use Rattle.row_semantics.specs.declared.rule.NameRule.TheVariants as rule
use Rattle.row_semantics.specs.Regulars.{Regular}
use Rattle.row_semantics.specs.Scopes.{Broken, column_named}
use Rattle.row_semantics.specs.Kinds.{breaks, kind_of_column, kind_or_rule}
use Rattle.row_semantics.specs.Columns.{names_of}
use Rattle.row_semantics.specs.Sources.{clashes, with_column, with_table, with_tables, table_named, columns_of_tables}
use Rattle.query_semantics.specs.Calls.{AggregateCall, calls_of, outside_columns}
use Rattle.query_semantics.specs.StatsShapes.{field_scope, outside_scope, FieldKinds, kind_of_condition, kinds_of_field, kinds_of_fields, kinds_of_groups, aggregate_rule, condition_rule, first_broken, field_rule, fields_rule, unless_broken, shape_of_stats}
use Rattle.query_semantics.specs.Shapes.{Context, scope_over, shape_of_field, shape_of_fields, shape_of_condition, unless_unmet, unless_missing, shape_of_keys, shape_of_expand, shape_of_kind, unless_empty, shape_of_command, shape_of_commands, shape_of_source, shape_in}
use Rattle.query_semantics.specs.Places.{BrokenFits}
use Rattle.query_semantics.proofs.AppendedPlaces.{dissect_fits, grok_fits, enrich_fits}
use Rattle.query_semantics.proofs.CallsOpened.{columns_fit}
use Rattle.query_semantics.proofs.ExprPlaces.{then_fits, either_fits, column_fits, kind_fits}

-- fields and conditions -------------------------------------------------------------------------------------------------------

field_fits : (context : Context) (field : Field) (columns : List Column) → FieldFits context.text field → BrokenFits context.text (shape_of_field context field columns)
field_fits context field columns fits =
    then_fits context.text (kind_or_rule field.expr (scope_over context columns)) _ (kind_fits context.text field.expr fits.expr (scope_over context columns)) (λ kind. tt)

fields_fit : (context : Context) (fields : List Field) (columns : List Column) → FieldsFit context.text fields → BrokenFits context.text (shape_of_fields context fields columns)
fields_fit context [] columns fits = tt
fields_fit context (field ∷ fields) columns fits =
    then_fits context.text (shape_of_field context field columns) (shape_of_fields context fields) (field_fits context field columns (All-head (FieldFits context.text) field fields fits))
    (λ more. fields_fit context fields more (All-tail (FieldFits context.text) field fields fits))

condition_fits : (context : Context) (condition : Expr) (columns : List Column) → ExprFits context.text condition → BrokenFits context.text (shape_of_condition context condition columns)
condition_fits context condition columns fits =
    then_fits context.text (kind_or_rule condition (scope_over context columns)) _ (kind_fits context.text condition fits (scope_over context columns))
    (λ found. either_fits context.text (is_kind kind.Boolean found) (Ok columns) (breaks rule.NotBoolean condition.span) tt (own_span_fits context.text condition fits))

-- names -----------------------------------------------------------------------------------------------------------------------

Found : {A : Type 0} → (A → Type 0) → Option A → Type 0
Found P None = Unit {0}
Found P (Some a) = P a

found_fits : (text : List ℕ) (test : NamePattern → Bool) (patterns : List NamePattern) (columns : List Column) → All (PatternFits text) patterns
    → BrokenFits text (unless_unmet (find test patterns) columns)
found_fits text test [] columns fits = tt
found_fits text test (pattern ∷ patterns) columns fits =
    by_case (test pattern) (All-head (PatternFits text) pattern patterns fits) (found_fits text test patterns columns (All-tail (PatternFits text) pattern patterns fits))
  where
    by_case : (met : Bool) → SpanFits text pattern.span → BrokenFits text (unless_unmet (find test patterns) columns)
        → BrokenFits text (unless_unmet (cond met (Some pattern) (find test patterns)) columns)
    by_case true own rest = own
    by_case false own rest = rest

missing_fits : (text : List ℕ) (pairs : List RenamePair) (columns : List Column) (these : _) → All (PairFits text) pairs → BrokenFits text (unless_missing (first_missing_of these pairs) columns)
missing_fits text [] columns these fits = tt
missing_fits text (pair ∷ pairs) columns these fits =
    by_case (is_there these pair.before.name) (All-head (PairFits text) pair pairs fits).before (missing_fits text pairs columns (with_pair these pair) (All-tail (PairFits text) pair pairs fits))
  where
    by_case : (there : Bool) → SpanFits text pair.before.span → BrokenFits text (unless_missing (first_missing_of (with_pair these pair) pairs) columns)
        → BrokenFits text (unless_missing (cond there (first_missing_of (with_pair these pair) pairs) (Some pair)) columns)
    by_case true own rest = rest
    by_case false own rest = own

-- SORT and MV_EXPAND ----------------------------------------------------------------------------------------------------------

keys_fit : (context : Context) (keys : List SortKey) (columns : List Column) → All (KeyFits context.text) keys → BrokenFits context.text (shape_of_keys context keys columns)
keys_fit context [] columns fits = tt
keys_fit context (key ∷ keys) columns fits =
    then_fits context.text (kind_or_rule key.expr (scope_over context columns)) _
    (kind_fits context.text key.expr (All-head (KeyFits context.text) key keys fits) (scope_over context columns))
    (λ kind. keys_fit context keys columns (All-tail (KeyFits context.text) key keys fits))

expand_fits : (context : Context) (column : NameAt) (columns : List Column) → NameFits context.text column → BrokenFits context.text (shape_of_expand column columns)
expand_fits context column columns fits =
    let found = column_named columns column.name in
    then_fits context.text (kind_of_column found column.span) _ (column_fits context.text found column.span fits) (λ kind. tt)

-- STATS -----------------------------------------------------------------------------------------------------------------------

abbrev MaybeFits : List ℕ → Option Broken → Type 0
MaybeFits text None = Unit {0}
MaybeFits text (Some broken) = SpanFits text broken.span

first_fits : (text : List ℕ) (first later : Option Broken) → MaybeFits text first → MaybeFits text later → MaybeFits text (first_broken first later)
first_fits text (Some broken) later fits rest = fits
first_fits text None later fits rest = rest

aggregate_rule_fits : (text : List ℕ) (columns : List Span) (calls : List AggregateCall) (own : Span) → All (SpanFits text) columns → SpanFits text own → MaybeFits text (aggregate_rule columns calls own)
aggregate_rule_fits text (column ∷ columns) calls own fits fit = All-head (SpanFits text) column columns fits
aggregate_rule_fits text [] [] own fits fit = fit
aggregate_rule_fits text [] (call ∷ calls) own fits fit = tt

boolean_rule_fits : (text : List ℕ) (is : Bool) (broken : Broken) → SpanFits text broken.span → MaybeFits text (cond is None (Some broken))
boolean_rule_fits text true broken fits = tt
boolean_rule_fits text false broken fits = fits

condition_rule_fits : (text : List ℕ) (field : Field) (condition : Option Condition) (found : Option Kind) → IfSome condition (ConditionFits text field) → MaybeFits text (condition_rule condition found)
condition_rule_fits text field None found fits = tt
condition_rule_fits text field (Some condition) None fits = tt
condition_rule_fits text field (Some condition) (Some found) fits =
    boolean_rule_fits text (is_kind kind.Boolean found) (record { rule = rule.NotBoolean; span = condition.expr.span }) (own_span_fits text condition.expr fits.expr)

fields_rule_fits : (text : List ℕ) (fields : List StatsField) (kinds : List FieldKinds) → All (StatsFits text) fields → MaybeFits text (fields_rule fields kinds)
fields_rule_fits text [] kinds fits = tt
fields_rule_fits text (stats ∷ fields) [] fits = tt
fields_rule_fits text (stats ∷ fields) (first ∷ kinds) fits =
    let own = All-head (StatsFits text) stats fields fits in
    first_fits text (field_rule stats first) (fields_rule fields kinds)
    (first_fits text _ _ (aggregate_rule_fits text (outside_columns stats.field.expr) (calls_of stats.field.expr) stats.field.span (columns_fit stats.field.expr text own.field.expr) own.field.span)
    (condition_rule_fits text stats.field stats.condition first.condition own.condition))
    (fields_rule_fits text fields kinds (All-tail (StatsFits text) stats fields fits))

module _ (text : List ℕ) (accepts : Regular → Bool) (columns : List Column) where
  condition_kind_fits : (field : Field) (condition : Option Condition) → IfSome condition (ConditionFits text field) → BrokenFits text (kind_of_condition accepts columns condition)
  condition_kind_fits field None fits = tt
  condition_kind_fits field (Some condition) fits =
      then_fits text (kind_or_rule condition.expr (outside_scope accepts columns)) _ (kind_fits text condition.expr fits.expr (outside_scope accepts columns)) (λ found. tt)

  field_kinds_fit : (stats : StatsField) → StatsFits text stats → BrokenFits text (kinds_of_field accepts columns stats)
  field_kinds_fit stats fits =
      then_fits text (kind_or_rule stats.field.expr (field_scope accepts columns)) _ (kind_fits text stats.field.expr fits.field.expr (field_scope accepts columns))
      (λ own. then_fits text (kind_of_condition accepts columns stats.condition) _ (condition_kind_fits stats.field stats.condition fits.condition) (λ condition. tt))

  fields_kinds_fit : (fields : List StatsField) → All (StatsFits text) fields → BrokenFits text (kinds_of_fields accepts columns fields)
  fields_kinds_fit [] fits = tt
  fields_kinds_fit (stats ∷ fields) fits =
      then_fits text (kinds_of_field accepts columns stats) _ (field_kinds_fit stats (All-head (StatsFits text) stats fields fits))
      (λ first. then_fits text (kinds_of_fields accepts columns fields) _ (fields_kinds_fit fields (All-tail (StatsFits text) stats fields fits)) (λ rest. tt))

  groups_kinds_fit : (groups : List Field) → FieldsFit text groups → BrokenFits text (kinds_of_groups accepts columns groups)
  groups_kinds_fit [] fits = tt
  groups_kinds_fit (group ∷ groups) fits =
      then_fits text (kind_or_rule group.expr (outside_scope accepts columns)) _ (kind_fits text group.expr (All-head (FieldFits text) group groups fits).expr (outside_scope accepts columns))
      (λ first. then_fits text (kinds_of_groups accepts columns groups) _ (groups_kinds_fit groups (All-tail (FieldFits text) group groups fits)) (λ rest. tt))

  unless_fits : (broken : Option Broken) (after : List Column) → MaybeFits text broken → BrokenFits text (unless_broken broken after)
  unless_fits None after fits = tt
  unless_fits (Some broken) after fits = fits

  stats_fit : (fields : List StatsField) (groups : List Field) → All (StatsFits text) fields → FieldsFit text groups → BrokenFits text (shape_of_stats text accepts fields groups columns)
  stats_fit fields groups fits also =
      then_fits text (kinds_of_fields accepts columns fields) _ (fields_kinds_fit fields fits)
      (λ kinds. then_fits text (kinds_of_groups accepts columns groups) _ (groups_kinds_fit groups also)
      (λ others. unless_fits (fields_rule fields kinds) _ (fields_rule_fits text fields kinds fits)))

-- commands --------------------------------------------------------------------------------------------------------------------

kind_of_command_fits : (context : Context) (kind : CommandKind) (columns : List Column) → KindFits context.text kind → BrokenFits context.text (shape_of_kind context kind columns)
kind_of_command_fits context (Filter condition) columns fits = condition_fits context condition columns fits
kind_of_command_fits context (Eval fields) columns fits = fields_fit context fields columns fits
kind_of_command_fits context (Keep patterns) columns fits = found_fits context.text (is_unmet (names_of columns)) patterns _ fits
kind_of_command_fits context (Drop patterns) columns fits = found_fits context.text (is_unmet (names_of columns)) patterns _ fits
kind_of_command_fits context (Rename pairs) columns fits = missing_fits context.text pairs _ (placed (names_of columns)) fits
kind_of_command_fits context (Sort keys) columns fits = keys_fit context keys columns fits
kind_of_command_fits context (Limit count) columns fits = tt
kind_of_command_fits context (Expand column) columns fits = expand_fits context column columns fits
kind_of_command_fits context (Stats fields groups) columns fits = stats_fit context.text context.accepts columns fields groups fits.0 fits.1
kind_of_command_fits context (Dissect input pattern separator) columns fits = dissect_fits context.text context.accepts columns input pattern separator fits.0 fits.1
kind_of_command_fits context (Grok input pattern) columns fits = grok_fits context.text context.accepts columns input pattern fits.0 fits.1
kind_of_command_fits context (Enrich policy on fields) columns fits = enrich_fits context.text context.accepts columns context.catalog.policies policy on fields fits.0 fits.1 fits.2
kind_of_command_fits context (Join table on) columns fits = tt

empty_fits : (text : List ℕ) (span : Span) (columns : List Column) → SpanFits text span → BrokenFits text (unless_empty span columns)
empty_fits text span [] fits = fits
empty_fits text span (column ∷ columns) fits = tt

abbrev NodeFits : List ℕ → NodeAt → Type 0
NodeFits text place = SpanFits text place.span

command_fits : (context : Context) (command : Command) (columns : List Column) → SpanFits context.text command.span → KindFits context.text command.kind
    → BrokenFits context.text (shape_of_command context command columns)
command_fits context command columns own fits =
    then_fits context.text (shape_of_kind context command.kind columns) (unless_empty command.span) (kind_of_command_fits context command.kind columns fits)
    (λ more. empty_fits context.text command.span more own)

commands_fit : (context : Context) (commands : List Command) (columns : List Column) → All (NodeFits context.text) (flat_map nodes_of_command commands)
    → All (λ (command : Command). KindFits context.text command.kind) commands → BrokenFits context.text (shape_of_commands context commands columns)
commands_fit context [] columns nodes fits = tt
commands_fit context (command ∷ commands) columns nodes fits =
    let own = All-front (NodeFits context.text) (nodes_of_command command) (flat_map nodes_of_command commands) nodes in
    then_fits context.text (shape_of_command context command columns) (shape_of_commands context commands)
    (command_fits context command columns (All-head (NodeFits context.text) (record { node = command.node; span = command.span }) (nodes_of_kind command.kind) own)
    (All-head (λ (command : Command). KindFits context.text command.kind) command commands fits))
    (λ more. commands_fit context commands more (All-back (NodeFits context.text) (nodes_of_command command) (flat_map nodes_of_command commands) nodes)
    (All-tail (λ (command : Command). KindFits context.text command.kind) command commands fits))

-- sources and queries -----------------------------------------------------------------------------------------------------------

table_fits : (text : List ℕ) (name : NameAt) (table : Option TableShape) (columns : List Column) → NameFits text name → BrokenFits text (with_table name table columns)
table_fits text name None columns fits = fits
table_fits text name (Some table) columns fits = either_fits text (list_any (clashes columns) table.columns) (breaks rule.BadKind name.span) (Ok (fold with_column columns table.columns)) fits tt

tables_fit : (text : List ℕ) (catalog : List TableShape) (names : List NameAt) (columns : List Column) → All (NameFits text) names → BrokenFits text (with_tables catalog names columns)
tables_fit text catalog [] columns fits = tt
tables_fit text catalog (name ∷ names) columns fits =
    then_fits text (with_table name (table_named catalog name.name) columns) (with_tables catalog names)
    (table_fits text name (table_named catalog name.name) columns (All-head (NameFits text) name names fits))
    (λ more. tables_fit text catalog names more (All-tail (NameFits text) name names fits))

source_fits : (context : Context) (source : SourceCommand) → All (NodeFits context.text) (nodes_of_source source) → SourceFits context.text source → BrokenFits context.text (shape_of_source context source)
source_fits context (Tables node span tables) nodes fits =
    then_fits context.text (columns_of_tables context.catalog.tables tables) (unless_empty span) (tables_fit context.text context.catalog.tables tables [] fits)
    (λ columns. empty_fits context.text span columns (All-head (NodeFits context.text) (record { node = node; span = span }) [] nodes))
source_fits context (OneRow node span fields) nodes fits = fields_fit context fields [] fits

-- the first rule that a query breaks stands in a part of its text
pub shape_fits : (context : Context) (query : Query) → QueryFits context.text query → BrokenFits context.text (shape_in context query)
shape_fits context query fits =
    then_fits context.text (shape_of_source context query.source) (shape_of_commands context query.commands)
    (source_fits context query.source (All-front (NodeFits context.text) (nodes_of_source query.source) (flat_map nodes_of_command query.commands) fits.nodes) fits.source)
    (λ columns. commands_fit context query.commands columns (All-back (NodeFits context.text) (nodes_of_source query.source) (flat_map nodes_of_command query.commands) fits.nodes) fits.commands)
