-- The commands of a query stand in its text.
use Rattle.std.proofs.Common.{◌≡◌, ℕ, ◌<◌, List, [], ◌∷◌, length, get_or, All, sym, subst}
use Rattle.std.specs.List.{flat_map}
use Rattle.std.proofs.lemmas.List.Elements.{All-nil, All-cons, All-head}
use Rattle.esql_types.specs.Spans.{SpanFits}
use Rattle.esql_types.proofs.Lists.{All-front, All-back}
use Rattle.esql_ast.specs.declared.nodes.NodeAt.{NodeAt}
use Rattle.esql_ast.specs.declared.query.Command.{Command}
use Rattle.esql_ast.specs.declared.query.Query.{Query}
use Rattle.esql_ast.specs.Fits.{QueryFits}
use Rattle.esql_ast.specs.Nodes.{nodes_of_source, nodes_of_command}

-- where the nodes of commands fit, the commands' own spans do
own_spans_fit : (text : List ℕ) (commands : List Command) → All (λ (place : NodeAt). SpanFits text place.span) (flat_map nodes_of_command commands)
    → All (λ (command : Command). SpanFits text command.span) commands
own_spans_fit text [] fits = All-nil (λ (command : Command). SpanFits text command.span)
own_spans_fit text (command ∷ commands) fits =
    let P : NodeAt → Type 0 = λ place. SpanFits text place.span in
    All-cons (λ (command : Command). SpanFits text command.span) command commands
    (All-head P (record { node = command.node; span = command.span }) _ (All-front P (nodes_of_command command) (flat_map nodes_of_command commands) fits))
    (own_spans_fit text commands (All-back P (nodes_of_command command) (flat_map nodes_of_command commands) fits))

pub command_fits : (text : List ℕ) (query : Query) (given : List Command) (k : ℕ) (command : Command) → given ≡ query.commands → QueryFits text query → k < length given → command ≡ get_or given k command
    → SpanFits text command.span
command_fits text query given k command are fits within is =
    let P : NodeAt → Type 0 = λ place. SpanFits text place.span in
    let spans = own_spans_fit text query.commands (All-back P (nodes_of_source query.source) (flat_map nodes_of_command query.commands) fits.nodes) in
    let all : All (λ (one : Command). SpanFits text one.span) given = subst (All (λ (one : Command). SpanFits text one.span)) (sym are) spans in
    subst (λ (one : Command). SpanFits text one.span) (sym is) (all k command within)
