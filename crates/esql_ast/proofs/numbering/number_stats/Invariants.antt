use Rattle.std.proofs.Common.{◌≡◌, ◌+◌, ◌++◌, map}
use Rattle.std.specs.Vec.Iter.{into_iter_items}
use Rattle.esql_ast.specs.Numbering.{numbering_of_stats, size_all, numbered_all}
use Rattle.esql_ast.proofs.numbering.number_stats.Given as goal

abbrev pub invariant-loop-stats : goal.invariant-loop-stats
invariant-loop-stats l = record {
  made : l.made ++ numbered_all (map numbering_of_stats (into_iter_items l.stats-iterator)) l.next ≡ numbered_all (map numbering_of_stats l.fn.fields) l.fn.next;
  next : l.next + size_all (map numbering_of_stats (into_iter_items l.stats-iterator)) ≡ l.fn.next + size_all (map numbering_of_stats l.fn.fields);
}
