use Rattle.std.proofs.Common.{◌≡◌, ◌+◌, ◌++◌, length}
use Rattle.std.specs.Vec.Iter.{into_iter_items}
use Rattle.query_semantics.specs.Written.{numbered_from}
use Rattle.plan_writing.proofs.columns.numbered.Given as goal

abbrev pub invariant-loop-column : goal.invariant-loop-column
invariant-loop-column l = record {
  visible : l.visible ++ numbered_from l.number (into_iter_items l.column-iterator) ≡ numbered_from 0 l.fn.columns;
  number : l.number + length (into_iter_items l.column-iterator) ≡ length l.fn.columns;
}
