-- The aggregate calls that a walk over an expression has found, and how many nodes they come to.
use Rattle.std.specs.Prelude.{ℕ, ◌+◌, List, [], ◌∷◌, map, length, Option, Some, None}
use Rattle.std.specs.Option.{option_copied}
use Rattle.esql_ast.specs.declared.nodes.NodeAt.{NodeAt}
use Rattle.esql_ast.specs.declared.expr.Expr.{Expr}
use Rattle.esql_ast.specs.declared.query.StatsField.{StatsField}
use Rattle.esql_ast.specs.Nodes.{nodes_of_expr}
use Rattle.query_semantics.specs.Calls.{AggregateCall, calls_of}
use Rattle.stats_writing.specs.declared.calls.Call.{Call}

abbrev pub call_of : Call → AggregateCall
call_of call = record { node = call.node; function = call.function; argument = option_copied call.argument }

abbrev pub seen_calls : List Call → List AggregateCall
seen_calls calls = map call_of calls

abbrev pub nodes_of_argument : Option Expr → List NodeAt
nodes_of_argument None = []
nodes_of_argument (Some argument) = nodes_of_expr argument

-- a call, with the nodes of its argument
abbrev pub size_of_call : AggregateCall → ℕ
size_of_call call = 1 + length (nodes_of_argument call.argument)

abbrev pub size_of_calls : List AggregateCall → ℕ
size_of_calls [] = 0
size_of_calls (call ∷ calls) = size_of_call call + size_of_calls calls

-- how many calls there are in fields
abbrev pub calls_in_fields : List StatsField → ℕ
calls_in_fields [] = 0
calls_in_fields (stats ∷ fields) = length (calls_of stats.field.expr) + calls_in_fields fields
