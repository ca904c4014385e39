use Rattle.std.proofs.Common.{◌≡◌, ◌++◌, take}
use Rattle.std.specs.List.{flat_map}
use Rattle.esql_ast.specs.Nodes.{nodes_of_field}
use Rattle.esql_ast.proofs.nodes.push_fields.Given as goal

abbrev pub invariant-loop-field : goal.invariant-loop-field
invariant-loop-field l = l.nodes ≡ l.initial.nodes ++ flat_map nodes_of_field (take l.field-index l.field-items)
