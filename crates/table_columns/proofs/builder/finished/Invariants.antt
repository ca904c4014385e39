use Rattle.std.proofs.Common.{◌≡◌, ◌++◌}
use Rattle.std.specs.Vec.Iter.{into_iter_items}
use Rattle.table_columns.specs.Held.{AreClosed, all_grown, all_held}
use Rattle.table_columns.proofs.builder.finished.Given as goal

abbrev pub invariant-loop-column : goal.invariant-loop-column
invariant-loop-column l = record {
  closed : AreClosed (into_iter_items l.column-iterator);
  kept : all_held l.kept.items ++ all_grown (into_iter_items l.column-iterator) ≡ all_grown l.fn.columns.items;
}
