-- The columns after each command of a query, or the first rule that is broken, in the order in which the query is written.
use Rattle.std.specs.Prelude.{ℕ, Bool, List, [], ◌∷◌, Option, Some, None, Result, Ok, Err, if◌then◌else◌}
use Rattle.esql_types.specs.declared.places.Span.{Span}
use Rattle.esql_types.specs.declared.value.Kind.TheVariants as kind
use Rattle.esql_types.specs.declared.names.Column.{Column}
use Rattle.esql_ast.specs.declared.expr.Expr.{Expr}
use Rattle.esql_ast.specs.declared.query.Field.{Field}
use Rattle.esql_ast.specs.declared.query.NameAt.{NameAt}
use Rattle.esql_ast.specs.declared.query.SortKey.{SortKey}
use Rattle.esql_ast.specs.declared.query.NamePattern.{NamePattern}
use Rattle.esql_ast.specs.declared.query.RenamePair.{RenamePair}
use Rattle.esql_ast.specs.declared.query.Query.{Query}
use Rattle.esql_ast.specs.declared.query.Command.{Command}
use Rattle.esql_ast.specs.declared.query.CommandKind.{CommandKind}
use Rattle.esql_ast.specs.declared.query.CommandKind.TheVariants.{Filter, Eval, Keep, Drop, Rename, Sort, Limit, Expand, Stats, Dissect, Grok, Enrich, Join}
use Rattle.esql_ast.specs.declared.query.SourceCommand.{SourceCommand}
use Rattle.esql_ast.specs.declared.query.SourceCommand.TheVariants.{Tables, OneRow}
use Rattle.name_rules.specs.NameRules.{first_unmet, keep_places, drop_places, at_places, first_missing, renamings, renamed_by}
use Rattle.esql_plan.specs.declared.catalog.Catalog.{Catalog}
use Rattle.esql_plan.specs.Signatures.{is_kind}
use Rattle.row_semantics.specs.declared.rule.NameRule.TheVariants as rule
use Rattle.row_semantics.specs.Regulars.{Regular, is_accepted}
use Rattle.row_semantics.specs.Scopes.{Broken, Scope, elsewhere, column_named}
use Rattle.row_semantics.specs.Kinds.{breaks, and_then, kind_of_column, kind_or_rule}
use Rattle.row_semantics.specs.Fields.{name_of_field}
use Rattle.row_semantics.specs.Columns.{names_of, put_column, column_as}
use Rattle.row_semantics.specs.Sources.{columns_of_tables}
use Rattle.query_semantics.specs.AppendedShapes.{shape_of_dissect, shape_of_grok, shape_of_enrich}
use Rattle.query_semantics.specs.StatsShapes.{shape_of_stats}

-- columns, or a rule that is broken
abbrev pub Shape : Type 0
Shape = Result (List Column) Broken

-- what the query is judged by: its text, the tables and policies that there are, and which regular expressions are accepted
pub record Context : Type 0 where
  pub text : List ℕ
  pub catalog : Catalog
  pub accepts : Regular → Bool

-- what an expression over columns is judged by, which stands outside STATS
abbrev pub scope_over : Context → List Column → Scope
scope_over context columns = record { columns = columns; standing = elsewhere; accepts = context.accepts }

-- EVAL and ROW ---------------------------------------------------------------------------------------------------------

-- a field's column takes the place of that of its name, and stands at the end
abbrev pub shape_of_field : Context → Field → List Column → Shape
shape_of_field context field columns =
    and_then (kind_or_rule field.expr (scope_over context columns)) (λ kind. Ok (put_column columns (name_of_field context.text field) kind))

-- each field in turn, over the columns of those before it
abbrev pub shape_of_fields : Context → List Field → List Column → Shape
shape_of_fields context [] columns = Ok columns
shape_of_fields context (field ∷ fields) columns = and_then (shape_of_field context field columns) (shape_of_fields context fields)

-- WHERE ----------------------------------------------------------------------------------------------------------------

-- a condition is boolean or null
abbrev pub shape_of_condition : Context → Expr → List Column → Shape
shape_of_condition context condition columns =
    and_then (kind_or_rule condition (scope_over context columns))
    (λ found. if is_kind kind.Boolean found then Ok columns else breaks rule.NotBoolean condition.span)

-- KEEP, DROP, RENAME ------------------------------------------------------------------------------------------------------

-- a pattern that no column meets: a full name is an unknown column, one with `*` matches none
abbrev pub rule_of_unmet : NamePattern → Broken
rule_of_unmet pattern = record { rule = if pattern.wild then rule.NoMatch else rule.UnknownColumn; span = pattern.span }

abbrev pub unless_unmet : Option NamePattern → List Column → Shape
unless_unmet None columns = Ok columns
unless_unmet (Some pattern) columns = Err (rule_of_unmet pattern)

-- the columns that some pattern meets, in the order of KEEP
abbrev pub shape_of_keep : List NamePattern → List Column → Shape
shape_of_keep patterns columns = unless_unmet (first_unmet (names_of columns) patterns) (at_places (keep_places (names_of columns) patterns) columns)

-- the columns that no pattern meets
abbrev pub shape_of_drop : List NamePattern → List Column → Shape
shape_of_drop patterns columns = unless_unmet (first_unmet (names_of columns) patterns) (at_places (drop_places (names_of columns) patterns) columns)

abbrev pub unless_missing : Option RenamePair → List Column → Shape
unless_missing None columns = Ok columns
unless_missing (Some pair) columns = breaks rule.UnknownColumn pair.before.span

-- the columns under their new names
abbrev pub shape_of_rename : List RenamePair → List Column → Shape
shape_of_rename pairs columns = unless_missing (first_missing (names_of columns) pairs) (renamed_by column_as (renamings (names_of columns) pairs) columns)

-- SORT and MV_EXPAND ------------------------------------------------------------------------------------------------------

-- each key in turn has some kind; the columns stay
abbrev pub shape_of_keys : Context → List SortKey → List Column → Shape
shape_of_keys context [] columns = Ok columns
shape_of_keys context (key ∷ keys) columns =
    and_then (kind_or_rule key.expr (scope_over context columns)) (λ kind. shape_of_keys context keys columns)

-- the column has to be there; it keeps its place and its kind
abbrev pub shape_of_expand : NameAt → List Column → Shape
shape_of_expand column columns = and_then (kind_of_column (column_named columns column.name) column.span) (λ kind. Ok columns)

-- commands ---------------------------------------------------------------------------------------------------------------

-- The columns after a command. No query with LOOKUP JOIN is judged so far: it leaves the columns as they are.
abbrev pub shape_of_kind : Context → CommandKind → List Column → Shape
shape_of_kind context (Filter condition) columns = shape_of_condition context condition columns
shape_of_kind context (Eval fields) columns = shape_of_fields context fields columns
shape_of_kind context (Keep patterns) columns = shape_of_keep patterns columns
shape_of_kind context (Drop patterns) columns = shape_of_drop patterns columns
shape_of_kind context (Rename pairs) columns = shape_of_rename pairs columns
shape_of_kind context (Sort keys) columns = shape_of_keys context keys columns
shape_of_kind context (Limit count) columns = Ok columns
shape_of_kind context (Expand column) columns = shape_of_expand column columns
shape_of_kind context (Stats fields groups) columns = shape_of_stats context.text context.accepts fields groups columns
shape_of_kind context (Dissect input pattern separator) columns = shape_of_dissect context.accepts input pattern separator columns
shape_of_kind context (Grok input pattern) columns = shape_of_grok context.accepts input pattern columns
shape_of_kind context (Enrich policy on fields) columns = shape_of_enrich context.catalog.policies policy on fields columns
shape_of_kind context (Join table on) columns = Ok columns

-- a command that leaves no column breaks a rule
abbrev pub unless_empty : Span → List Column → Shape
unless_empty span [] = breaks rule.EmptyResultColumns span
unless_empty span (column ∷ columns) = Ok (column ∷ columns)

abbrev pub shape_of_command : Context → Command → List Column → Shape
shape_of_command context command columns = and_then (shape_of_kind context command.kind columns) (unless_empty command.span)

-- commands in turn, each over the columns of those before it
abbrev pub shape_of_commands : Context → List Command → List Column → Shape
shape_of_commands context [] columns = Ok columns
shape_of_commands context (command ∷ commands) columns = and_then (shape_of_command context command columns) (shape_of_commands context commands)

-- the columns of FROM are those of its tables, and those of ROW its fields'
abbrev pub shape_of_source : Context → SourceCommand → Shape
shape_of_source context (Tables node span tables) = and_then (columns_of_tables context.catalog.tables tables) (unless_empty span)
shape_of_source context (OneRow node span fields) = shape_of_fields context fields []

-- the columns of a query, or the first rule that it breaks, by what it is judged by
abbrev pub shape_in : Context → Query → Shape
shape_in context query = and_then (shape_of_source context query.source) (shape_of_commands context query.commands)

-- the columns of a query, or the first rule that it breaks
abbrev pub shape_of : List ℕ → Catalog → Query → Shape
shape_of text catalog query = shape_in (record { text = text; catalog = catalog; accepts = is_accepted }) query
