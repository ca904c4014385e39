use Rattle.std.proofs.Common.{◌≡◌, ◌++◌, take}
use Rattle.std.specs.List.{flat_map}
use Rattle.esql_ast.specs.Nodes.{nodes_of_source, warned_nodes_of_command}
use Rattle.esql_ast.proofs.nodes.warned_nodes_of.Given as goal

abbrev pub invariant-loop-command : goal.invariant-loop-command
invariant-loop-command l = l.nodes ≡ nodes_of_source l.query.source ++ flat_map warned_nodes_of_command (take l.command-index l.command-items)
