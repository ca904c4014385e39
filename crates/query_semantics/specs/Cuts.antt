-- The last cut of a query.
use Rattle.std.specs.Prelude.{ℕ, Bool, true, false, if◌then◌else◌}
use Rattle.std.specs.List.{list_any}
use Rattle.esql_ast.specs.declared.query.Query.{Query}
use Rattle.esql_ast.specs.declared.query.Command.{Command}
use Rattle.esql_ast.specs.declared.query.CommandKind.{CommandKind}
use Rattle.esql_ast.specs.declared.query.CommandKind.TheVariants.{Filter, Eval, Keep, Drop, Rename, Sort, Limit, Expand, Stats, Dissect, Grok, Enrich, Join}

-- LIMIT, and no other command
abbrev pub is_limit : CommandKind → Bool
is_limit (Filter condition) = false
is_limit (Eval fields) = false
is_limit (Keep patterns) = false
is_limit (Drop patterns) = false
is_limit (Rename pairs) = false
is_limit (Sort keys) = false
is_limit (Limit count) = true
is_limit (Expand column) = false
is_limit (Stats fields groups) = false
is_limit (Dissect input pattern separator) = false
is_limit (Grok input pattern) = false
is_limit (Enrich policy on fields) = false
is_limit (Join table on) = false

-- how many rows the last cut leaves, by whether a LIMIT stands anywhere in the query
abbrev pub last_count : Query → ℕ
last_count query = if list_any (λ (command : Command). is_limit command.kind) query.commands then 10000 else 1000
