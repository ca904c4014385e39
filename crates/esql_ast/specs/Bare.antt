-- A query without the numbers of its nodes.
use Rattle.std.specs.Prelude.{List, map, Option, option_map}
use Rattle.esql_ast.specs.declared.expr.Expr.{Expr, roll-Expr}
use Rattle.esql_ast.specs.declared.expr.Form.{Form}
use Rattle.esql_ast.specs.declared.expr.Form.TheVariants as form
use Rattle.esql_ast.specs.declared.expr.Form.TheOpen.{Expr-F, Form-F, Constant, List as Listed, Column, Group, Call, Minus, Not, Binary, Within, Like, IsNull, Cast}
use Rattle.esql_ast.specs.declared.expr.Form.TheFolds.{fold-Expr, fold-Form}
use Rattle.esql_ast.specs.declared.query.Condition.{Condition}
use Rattle.esql_ast.specs.declared.query.Field.{Field}
use Rattle.esql_ast.specs.declared.query.StatsField.{StatsField}
use Rattle.esql_ast.specs.declared.query.SortKey.{SortKey}
use Rattle.esql_ast.specs.declared.query.Query.{Query}
use Rattle.esql_ast.specs.declared.query.Command.{Command}
use Rattle.esql_ast.specs.declared.query.CommandKind.{CommandKind}
use Rattle.esql_ast.specs.declared.query.CommandKind.TheVariants.{Filter, Eval, Keep, Drop, Rename, Sort, Limit, Expand, Stats, Dissect, Grok, Enrich, Join}
use Rattle.esql_ast.specs.declared.query.SourceCommand.{SourceCommand}
use Rattle.esql_ast.specs.declared.query.SourceCommand.TheVariants.{Tables, OneRow}
use Rattle.esql_ast.specs.Numbering.{node_id}

-- a form of parts whose nodes have the number 0
abbrev pub bare_form : Form-F Form Expr → Form
bare_form (Constant cell kind) = form.Constant cell kind
bare_form (Listed values) = form.List values
bare_form (Column name) = form.Column name
bare_form (Group inner) = form.Group inner
bare_form (Call function args star) = form.Call function args star
bare_form (Minus arg) = form.Minus arg
bare_form (Not arg) = form.Not arg
bare_form (Binary op left right) = form.Binary op left right
bare_form (Within negated left items) = form.Within negated left items
bare_form (Like negated regex left pattern) = form.Like negated regex left pattern
bare_form (IsNull negated arg) = form.IsNull negated arg
bare_form (Cast arg kind) = form.Cast arg kind

abbrev pub bare_own : Expr-F Form Expr → Expr
bare_own expr = roll-Expr (record { node = node_id 0; span = expr.span; form = expr.form })

-- an expression whose nodes have the number 0
abbrev pub bare : Expr → Expr
bare = fold-Expr Form Expr bare_form bare_own

abbrev pub bare_in : Form → Form
bare_in = fold-Form Form Expr bare_form bare_own

abbrev pub bare_field : Field → Field
bare_field field = record { name = field.name; expr = bare field.expr; span = field.span }

abbrev pub bare_condition : Condition → Condition
bare_condition condition = record { node = node_id 0; expr = bare condition.expr }

abbrev pub bare_stats : StatsField → StatsField
bare_stats stats = record { field = bare_field stats.field; condition = option_map bare_condition stats.condition }

abbrev pub bare_key : SortKey → SortKey
bare_key key = record { expr = bare key.expr; descending = key.descending; nulls_first = key.nulls_first }

abbrev pub bare_kind : CommandKind → CommandKind
bare_kind (Filter condition) = Filter (bare condition)
bare_kind (Eval fields) = Eval (map bare_field fields)
bare_kind (Keep patterns) = Keep patterns
bare_kind (Drop patterns) = Drop patterns
bare_kind (Rename pairs) = Rename pairs
bare_kind (Sort keys) = Sort (map bare_key keys)
bare_kind (Limit count) = Limit count
bare_kind (Expand column) = Expand column
bare_kind (Stats fields groups) = Stats (map bare_stats fields) (map bare_field groups)
bare_kind (Dissect input pattern separator) = Dissect (bare input) pattern separator
bare_kind (Grok input pattern) = Grok (bare input) pattern
bare_kind (Enrich policy on fields) = Enrich policy on fields
bare_kind (Join table on) = Join table on

abbrev pub bare_command : Command → Command
bare_command command = record { node = node_id 0; span = command.span; kind = bare_kind command.kind }

abbrev pub bare_source : SourceCommand → SourceCommand
bare_source (Tables node span tables) = Tables (node_id 0) span tables
bare_source (OneRow node span fields) = OneRow (node_id 0) span (map bare_field fields)

-- a query whose nodes have the number 0, of which it has none
abbrev pub bare_query : Query → Query
bare_query query = record { source = bare_source query.source; commands = map bare_command query.commands; nodes = 0 }
