-- The commands that are built so far.
use Rattle.std.specs.Prelude.{◌≡◌, Bool, true, false, All}
use Rattle.esql_ast.specs.declared.query.Query.{Query}
use Rattle.esql_ast.specs.declared.query.Command.{Command}
use Rattle.esql_ast.specs.declared.query.CommandKind.{CommandKind}
use Rattle.esql_ast.specs.declared.query.CommandKind.TheVariants.{Filter, Eval, Keep, Drop, Rename, Sort, Limit, Expand, Stats, Dissect, Grok, Enrich, Join}

-- all commands but LOOKUP JOIN are built
abbrev pub is_built_kind : CommandKind → Bool
is_built_kind (Filter condition) = true
is_built_kind (Eval fields) = true
is_built_kind (Keep patterns) = true
is_built_kind (Drop patterns) = true
is_built_kind (Rename pairs) = true
is_built_kind (Sort keys) = true
is_built_kind (Limit count) = true
is_built_kind (Expand column) = true
is_built_kind (Stats fields groups) = true
is_built_kind (Dissect input pattern separator) = true
is_built_kind (Grok input pattern) = true
is_built_kind (Enrich policy on fields) = true
is_built_kind (Join table on) = false

-- each command of the query is built
abbrev pub IsBuiltQuery : Query → Type 0
IsBuiltQuery query = All (λ (command : Command). is_built_kind command.kind ≡ true) query.commands
