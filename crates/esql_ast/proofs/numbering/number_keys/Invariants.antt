use Rattle.std.proofs.Common.{◌≡◌, ◌+◌, ◌++◌, map}
use Rattle.std.specs.Vec.Iter.{into_iter_items}
use Rattle.esql_ast.specs.Numbering.{numbering_of_key, size_all, numbered_all}
use Rattle.esql_ast.proofs.numbering.number_keys.Given as goal

abbrev pub invariant-loop-key : goal.invariant-loop-key
invariant-loop-key l = record {
  made : l.made ++ numbered_all (map numbering_of_key (into_iter_items l.key-iterator)) l.next ≡ numbered_all (map numbering_of_key l.fn.keys) l.fn.next;
  next : l.next + size_all (map numbering_of_key (into_iter_items l.key-iterator)) ≡ l.fn.next + size_all (map numbering_of_key l.fn.keys);
}
