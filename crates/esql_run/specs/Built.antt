-- The first command of a query that is not built.
use Rattle.std.specs.Prelude.{List, [], ◌∷◌, Option, Some, None, if◌then◌else◌}
use Rattle.esql_types.specs.declared.places.Span.{Span}
use Rattle.esql_ast.specs.declared.query.Command.{Command}
use Rattle.esql_ast.specs.declared.query.Query.{Query}
use Rattle.query_semantics.specs.Built.{is_built_kind}

abbrev pub unbuilt_in : List Command → Option Span
unbuilt_in [] = None
unbuilt_in (command ∷ commands) = if is_built_kind command.kind then unbuilt_in commands else Some command.span

-- the span of the first command that is not built, if there is one
abbrev pub unbuilt_of : Query → Option Span
unbuilt_of query = unbuilt_in query.commands
