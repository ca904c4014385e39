use Rattle.std.proofs.Common.{◌≡◌, ◌++◌, take}
use Rattle.std.specs.List.{flat_map}
use Rattle.esql_ast.specs.Nodes.{nodes_of_stats}
use Rattle.esql_ast.proofs.nodes.push_stats_fields.Given as goal

abbrev pub invariant-loop-stats : goal.invariant-loop-stats
invariant-loop-stats l = l.nodes ≡ l.initial.nodes ++ flat_map nodes_of_stats (take l.stats-index l.stats-items)
