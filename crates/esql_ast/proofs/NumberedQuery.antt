-- The numbers and the spans of a query that is numbered.
use Rattle.std.proofs.Common.{◌≡◌, List, map, ap, sym, ◌∙◌}
use Rattle.std.specs.List.{range_with_len}
use Rattle.esql_ast.specs.declared.nodes.NodeAt.{NodeAt}
use Rattle.esql_ast.specs.declared.query.Command.{Command}
use Rattle.esql_ast.specs.declared.query.SourceCommand.{SourceCommand}
use Rattle.esql_ast.specs.Nodes.{nodes_of}
use Rattle.esql_ast.specs.Numbering.{numbered_query}
use Rattle.esql_ast.specs.Laws.{as_it_was, spans_of, IsNumbered}
use Rattle.esql_ast.proofs.Renumbered.{renumbered_numbers, renumbered_spans}
use Rattle.esql_ast.proofs.QueryInTurn.{query_size, query_at}

pub in_order : (source : SourceCommand) (commands : List Command) → IsNumbered (numbered_query source commands)
in_order source commands =
    ap (λ (places : List NodeAt). map (λ (place : NodeAt). place.node.0) places) (query_at source commands)
    ∙ renumbered_numbers 0 (nodes_of (as_it_was source commands))
    ∙ ap (range_with_len 0) (sym (query_size source commands))

pub keeps_spans : (source : SourceCommand) (commands : List Command) → spans_of (numbered_query source commands) ≡ spans_of (as_it_was source commands)
keeps_spans source commands =
    ap (λ (places : List NodeAt). map (λ (place : NodeAt). place.span) places) (query_at source commands)
    ∙ renumbered_spans 0 (nodes_of (as_it_was source commands))
