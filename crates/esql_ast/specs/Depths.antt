-- How deep the expressions of a query are.
use Rattle.std.specs.Prelude.{ℕ, ◌+◌, max, List, [], ◌∷◌, map, Option, Some, None}
use Rattle.esql_ast.specs.declared.expr.Expr.{Expr}
use Rattle.esql_ast.specs.declared.expr.Form.TheOpen.{Expr-F, Form-F, Constant, List as Listed, Column, Group, Call, Minus, Not, Binary, Within, Like, IsNull, Cast}
use Rattle.esql_ast.specs.declared.expr.Form.{Form}
use Rattle.esql_ast.specs.declared.expr.Form.TheFolds.{fold-Expr, fold-Form}
use Rattle.esql_ast.specs.declared.query.Condition.{Condition}
use Rattle.esql_ast.specs.declared.query.Field.{Field}
use Rattle.esql_ast.specs.declared.query.StatsField.{StatsField}
use Rattle.esql_ast.specs.declared.query.SortKey.{SortKey}
use Rattle.esql_ast.specs.declared.query.Query.{Query}
use Rattle.esql_ast.specs.declared.query.Command.{Command}
use Rattle.esql_ast.specs.declared.query.CommandKind.{CommandKind}
use Rattle.esql_ast.specs.declared.query.CommandKind.TheVariants.{Filter, Eval, Keep, Drop, Rename, Sort, Limit, Expand, Stats, Dissect, Grok, Enrich, Join}
use Rattle.esql_ast.specs.declared.query.SourceCommand.{SourceCommand}
use Rattle.esql_ast.specs.declared.query.SourceCommand.TheVariants.{Tables, OneRow}

-- the greatest of depths, and 0 where there is none
abbrev pub greatest : List ℕ → ℕ
greatest [] = 0
greatest (depth ∷ depths) = max depth (greatest depths)

-- the depth of the deepest part of a form, and 0 where it has no part
abbrev pub deepest_in : Form-F ℕ ℕ → ℕ
deepest_in (Constant cell kind) = 0
deepest_in (Listed values) = 0
deepest_in (Column name) = 0
deepest_in (Group inner) = inner
deepest_in (Call function args star) = greatest args
deepest_in (Minus arg) = arg
deepest_in (Not arg) = arg
deepest_in (Binary op left right) = max left right
deepest_in (Within negated left items) = max left (greatest items)
deepest_in (Like negated regex left pattern) = left
deepest_in (IsNull negated arg) = arg
deepest_in (Cast arg kind) = arg

-- an expression is one deeper than its deepest part
abbrev pub one_deeper : Expr-F ℕ ℕ → ℕ
one_deeper expr = 1 + expr.form

-- A constant, a list, a column and a call without arguments have the depth 1, and any other expression is one deeper than its deepest part.
abbrev pub depth_of_expr : Expr → ℕ
depth_of_expr = fold-Expr ℕ ℕ deepest_in one_deeper

-- the depth of the deepest part of a form
abbrev pub deepest_part : Form → ℕ
deepest_part = fold-Form ℕ ℕ deepest_in one_deeper

abbrev pub depth_of_field : Field → ℕ
depth_of_field field = depth_of_expr field.expr

abbrev pub depth_of_condition : Option Condition → ℕ
depth_of_condition None = 0
depth_of_condition (Some condition) = depth_of_expr condition.expr

abbrev pub depth_of_stats : StatsField → ℕ
depth_of_stats stats = max (depth_of_field stats.field) (depth_of_condition stats.condition)

abbrev pub depth_of_key : SortKey → ℕ
depth_of_key key = depth_of_expr key.expr

-- the greatest depth of an expression of a command, and 0 where it has none
abbrev pub depth_of_kind : CommandKind → ℕ
depth_of_kind (Filter condition) = depth_of_expr condition
depth_of_kind (Eval fields) = greatest (map depth_of_field fields)
depth_of_kind (Keep patterns) = 0
depth_of_kind (Drop patterns) = 0
depth_of_kind (Rename pairs) = 0
depth_of_kind (Sort keys) = greatest (map depth_of_key keys)
depth_of_kind (Limit count) = 0
depth_of_kind (Expand column) = 0
depth_of_kind (Stats fields groups) = max (greatest (map depth_of_stats fields)) (greatest (map depth_of_field groups))
depth_of_kind (Dissect input pattern separator) = depth_of_expr input
depth_of_kind (Grok input pattern) = depth_of_expr input
depth_of_kind (Enrich policy on fields) = 0
depth_of_kind (Join table on) = 0

abbrev pub depth_of_command : Command → ℕ
depth_of_command command = depth_of_kind command.kind

abbrev pub depth_of_source : SourceCommand → ℕ
depth_of_source (Tables node span tables) = 0
depth_of_source (OneRow node span fields) = greatest (map depth_of_field fields)

-- the greatest depth of an expression that stands in the query, and 0 where none does
abbrev pub depth_of_query : Query → ℕ
depth_of_query query = max (depth_of_source query.source) (greatest (map depth_of_command query.commands))
