use Rattle.std.proofs.Common.{◌≡◌, ◌≤◌, ◌+◌, length}
use Rattle.std.specs.Vec.Iter.{into_iter_items}
use Rattle.query_semantics.specs.WrittenAppended.{put_new}
use Rattle.esql_analyze.proofs.appended.put_new.Given as goal

abbrev pub invariant-loop-column : goal.invariant-loop-column
invariant-loop-column l = record {
  put : put_new l.visible (into_iter_items l.column-iterator) l.number ≡ put_new l.fn.visible l.fn.columns l.next;
  room : l.number + length (into_iter_items l.column-iterator) ≤ 4294967295;
}
