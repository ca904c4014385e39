-- What is known of a query whose nodes are numbered.
use Rattle.std.specs.Prelude.{◌≡◌, ℕ, List, map}
use Rattle.std.specs.List.{range_with_len}
use Rattle.esql_types.specs.declared.places.Span.{Span}
use Rattle.esql_ast.specs.declared.query.Query.{Query}
use Rattle.esql_ast.specs.declared.query.Command.{Command}
use Rattle.esql_ast.specs.declared.query.SourceCommand.{SourceCommand}
use Rattle.esql_ast.specs.Nodes.{nodes_of}

-- a query whose nodes are as they were
abbrev pub as_it_was : SourceCommand → List Command → Query
as_it_was source commands = record { source = source; commands = commands; nodes = 0 }

abbrev pub numbers_of : Query → List ℕ
numbers_of query = map (λ place. place.node.0) (nodes_of query)

abbrev pub spans_of : Query → List Span
spans_of query = map (λ place. place.span) (nodes_of query)

-- the nodes are numbered from 0 in written order, and the query has as many
abbrev pub IsNumbered : Query → Type 0
IsNumbered query = numbers_of query ≡ range_with_len 0 query.nodes
