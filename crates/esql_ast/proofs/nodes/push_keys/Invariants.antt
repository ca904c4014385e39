use Rattle.std.proofs.Common.{◌≡◌, ◌++◌, take}
use Rattle.std.specs.List.{flat_map}
use Rattle.esql_ast.specs.Nodes.{nodes_of_key}
use Rattle.esql_ast.proofs.nodes.push_keys.Given as goal

abbrev pub invariant-loop-key : goal.invariant-loop-key
invariant-loop-key l = l.nodes ≡ l.initial.nodes ++ flat_map nodes_of_key (take l.key-index l.key-items)
