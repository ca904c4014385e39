-- The places where failures are said to be are parts of the text of a query that fits.
use Rattle.std.proofs.Common.{ℕ, List, [], ◌∷◌, All}
use Rattle.std.specs.List.{flat_map}
use Rattle.std.proofs.lemmas.List.Elements.{All-head, All-tail}
use Rattle.esql_types.specs.declared.places.Span.{Span}
use Rattle.esql_types.specs.Spans.{SpanFits}
use Rattle.esql_types.proofs.Lists.{All-front, All-back}
use Rattle.esql_ast.specs.declared.query.Query.{Query}
use Rattle.esql_ast.specs.declared.query.Command.{Command}
use Rattle.esql_ast.specs.declared.query.CommandKind.{CommandKind}
use Rattle.esql_ast.specs.declared.query.CommandKind.TheVariants.{Filter, Eval, Keep, Drop, Rename, Sort, Limit, Expand, Stats, Dissect, Grok, Enrich, Join}
use Rattle.esql_ast.specs.Fits.{KindFits, QueryFits}
use Rattle.esql_ast.specs.Nodes.{nodes_of_source, nodes_of_kind, nodes_of_command, warned_at, warned_nodes_of_command, warned_nodes_of}
use Rattle.esql_ast.proofs.PartsFit.{own_span_fits}
use Rattle.esql_ast.proofs.NodesFit.{NodesFit, no_nodes, node_then, nodes_then}

warned_fits : (text : List ℕ) (span : Span) (kind : CommandKind) → SpanFits text span → KindFits text kind → SpanFits text (warned_at span kind)
warned_fits text span (Filter condition) own fits = own_span_fits text condition fits
warned_fits text span (Eval fields) own fits = own
warned_fits text span (Keep patterns) own fits = own
warned_fits text span (Drop patterns) own fits = own
warned_fits text span (Rename pairs) own fits = own
warned_fits text span (Sort keys) own fits = own
warned_fits text span (Limit count) own fits = own
warned_fits text span (Expand column) own fits = own
warned_fits text span (Stats fields groups) own fits = own
warned_fits text span (Dissect input pattern separator) own fits = own_span_fits text input fits.0
warned_fits text span (Grok input pattern) own fits = own_span_fits text input fits.0
warned_fits text span (Enrich policy on fields) own fits = own
warned_fits text span (Join table on) own fits = own

commands_fit : (text : List ℕ) (commands : List Command) → NodesFit text (flat_map nodes_of_command commands) → All (λ (command : Command). KindFits text command.kind) commands
    → NodesFit text (flat_map warned_nodes_of_command commands)
commands_fit text [] nodes fits = no_nodes text
commands_fit text (command ∷ commands) nodes fits =
    let kind = All-head (λ (command : Command). KindFits text command.kind) command commands fits in
    let own = All-front (λ place. SpanFits text place.span) (nodes_of_command command) (flat_map nodes_of_command commands) nodes in
    let first = All-head (λ place. SpanFits text place.span) (record { node = command.node; span = command.span }) (nodes_of_kind command.kind) own in
    let inner = All-tail (λ place. SpanFits text place.span) (record { node = command.node; span = command.span }) (nodes_of_kind command.kind) own in
    nodes_then (warned_nodes_of_command command) (flat_map warned_nodes_of_command commands)
    (node_then (record { node = command.node; span = warned_at command.span command.kind }) (nodes_of_kind command.kind) (warned_fits text command.span command.kind first kind) inner)
    (commands_fit text commands (All-back (λ place. SpanFits text place.span) (nodes_of_command command) (flat_map nodes_of_command commands) nodes)
    (All-tail (λ (command : Command). KindFits text command.kind) command commands fits))

-- where a query fits its text, so do the places where its failures are said to be
pub warned_nodes_fit : (text : List ℕ) (query : Query) → QueryFits text query → NodesFit text (warned_nodes_of query)
warned_nodes_fit text query fits =
    nodes_then (nodes_of_source query.source) (flat_map warned_nodes_of_command query.commands)
    (All-front (λ place. SpanFits text place.span) (nodes_of_source query.source) (flat_map nodes_of_command query.commands) fits.nodes)
    (commands_fit text query.commands (All-back (λ place. SpanFits text place.span) (nodes_of_source query.source) (flat_map nodes_of_command query.commands) fits.nodes) fits.commands)
