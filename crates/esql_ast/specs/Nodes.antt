-- The nodes of a query in written order: the outer before the inner, from the left.
use Rattle.std.specs.Prelude.{List, [], ◌∷◌, ◌++◌, Option, Some, None}
use Rattle.std.specs.List.{flat_map}
use Rattle.esql_types.specs.declared.places.Span.{Span}
use Rattle.esql_ast.specs.declared.nodes.NodeAt.{NodeAt}
use Rattle.esql_ast.specs.declared.expr.Expr.{Expr}
use Rattle.esql_ast.specs.declared.expr.Form.TheOpen.{Expr-F, Form-F, Constant, List as Listed, Column, Group, Call, Minus, Not, Binary, Within, Like, IsNull, Cast}
use Rattle.esql_ast.specs.declared.expr.Form.{Form}
use Rattle.esql_ast.specs.declared.expr.Form.TheFolds.{fold-Expr, fold-Form}
use Rattle.esql_ast.specs.declared.query.Condition.{Condition}
use Rattle.esql_ast.specs.declared.query.Field.{Field}
use Rattle.esql_ast.specs.declared.query.StatsField.{StatsField}
use Rattle.esql_ast.specs.declared.query.SortKey.{SortKey}
use Rattle.esql_ast.specs.declared.query.Query.{Query}
use Rattle.esql_ast.specs.declared.query.Command.{Command}
use Rattle.esql_ast.specs.declared.query.CommandKind.{CommandKind}
use Rattle.esql_ast.specs.declared.query.CommandKind.TheVariants.{Filter, Eval, Keep, Drop, Rename, Sort, Limit, Expand, Stats, Dissect, Grok, Enrich, Join}
use Rattle.esql_ast.specs.declared.query.SourceCommand.{SourceCommand}
use Rattle.esql_ast.specs.declared.query.SourceCommand.TheVariants.{Tables, OneRow}

-- the nodes within a form
abbrev pub nodes_in : Form-F (List NodeAt) (List NodeAt) → List NodeAt
nodes_in (Constant cell kind) = []
nodes_in (Listed values) = []
nodes_in (Column name) = []
nodes_in (Group inner) = inner
nodes_in (Call function args star) = flat_map (λ places. places) args
nodes_in (Minus arg) = arg
nodes_in (Not arg) = arg
nodes_in (Binary op left right) = left ++ right
nodes_in (Within negated left items) = left ++ flat_map (λ places. places) items
nodes_in (Like negated regex left pattern) = left
nodes_in (IsNull negated arg) = arg
nodes_in (Cast arg kind) = arg

-- an expression's own node, then the nodes within it
abbrev pub own_and_inner : Expr-F (List NodeAt) (List NodeAt) → List NodeAt
own_and_inner expr = record { node = expr.node; span = expr.span } ∷ expr.form

abbrev pub nodes_of_expr : Expr → List NodeAt
nodes_of_expr = fold-Expr (List NodeAt) (List NodeAt) nodes_in own_and_inner

abbrev pub nodes_of_form : Form → List NodeAt
nodes_of_form = fold-Form (List NodeAt) (List NodeAt) nodes_in own_and_inner

abbrev pub nodes_of_field : Field → List NodeAt
nodes_of_field field = nodes_of_expr field.expr

-- a condition has the span of its expression, whose nodes come after it
abbrev pub nodes_of_condition : Option Condition → List NodeAt
nodes_of_condition None = []
nodes_of_condition (Some condition) = record { node = condition.node; span = condition.expr.span } ∷ nodes_of_expr condition.expr

-- the nodes of the field, then those of its condition
abbrev pub nodes_of_stats : StatsField → List NodeAt
nodes_of_stats stats = nodes_of_field stats.field ++ nodes_of_condition stats.condition

abbrev pub nodes_of_key : SortKey → List NodeAt
nodes_of_key key = nodes_of_expr key.expr

abbrev pub nodes_of_kind : CommandKind → List NodeAt
nodes_of_kind (Filter condition) = nodes_of_expr condition
nodes_of_kind (Eval fields) = flat_map nodes_of_field fields
nodes_of_kind (Keep patterns) = []
nodes_of_kind (Drop patterns) = []
nodes_of_kind (Rename pairs) = []
nodes_of_kind (Sort keys) = flat_map nodes_of_key keys
nodes_of_kind (Limit count) = []
nodes_of_kind (Expand column) = []
nodes_of_kind (Stats fields groups) = flat_map nodes_of_stats fields ++ flat_map nodes_of_field groups
nodes_of_kind (Dissect input pattern separator) = nodes_of_expr input
nodes_of_kind (Grok input pattern) = nodes_of_expr input
nodes_of_kind (Enrich policy on fields) = []
nodes_of_kind (Join table on) = []

-- a command, then the nodes of its expressions
abbrev pub nodes_of_command : Command → List NodeAt
nodes_of_command command = record { node = command.node; span = command.span } ∷ nodes_of_kind command.kind

abbrev pub nodes_of_source : SourceCommand → List NodeAt
nodes_of_source (Tables node span tables) = record { node = node; span = span } ∷ []
nodes_of_source (OneRow node span fields) = record { node = node; span = span } ∷ flat_map nodes_of_field fields

-- the nodes of the source command, then those of each command in turn
abbrev pub nodes_of : Query → List NodeAt
nodes_of query = nodes_of_source query.source ++ flat_map nodes_of_command query.commands

-- where the failures of a command's own node are said to be: at the condition of WHERE, at the input of DISSECT and GROK, and at
-- every other command itself
abbrev pub warned_at : Span → CommandKind → Span
warned_at span (Filter condition) = condition.span
warned_at span (Eval fields) = span
warned_at span (Keep patterns) = span
warned_at span (Drop patterns) = span
warned_at span (Rename pairs) = span
warned_at span (Sort keys) = span
warned_at span (Limit count) = span
warned_at span (Expand column) = span
warned_at span (Stats fields groups) = span
warned_at span (Dissect input pattern separator) = input.span
warned_at span (Grok input pattern) = input.span
warned_at span (Enrich policy on fields) = span
warned_at span (Join table on) = span

abbrev pub warned_nodes_of_command : Command → List NodeAt
warned_nodes_of_command command = record { node = command.node; span = warned_at command.span command.kind } ∷ nodes_of_kind command.kind

-- the nodes of a query in written order, each where its failures are said to be
abbrev pub warned_nodes_of : Query → List NodeAt
warned_nodes_of query = nodes_of_source query.source ++ flat_map warned_nodes_of_command query.commands
