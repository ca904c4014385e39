use Rattle.std.proofs.Common.{◌≡◌, ◌+◌, ◌++◌, map}
use Rattle.std.specs.Vec.Iter.{into_iter_items}
use Rattle.esql_ast.specs.Numbering.{numbering_of_command, size_all, numbered_all}
use Rattle.esql_ast.proofs.numbering.number_commands.Given as goal

abbrev pub invariant-loop-command : goal.invariant-loop-command
invariant-loop-command l = record {
  made : l.made ++ numbered_all (map numbering_of_command (into_iter_items l.command-iterator)) l.next ≡ numbered_all (map numbering_of_command l.fn.commands) l.fn.next;
  next : l.next + size_all (map numbering_of_command (into_iter_items l.command-iterator)) ≡ l.fn.next + size_all (map numbering_of_command l.fn.commands);
}
