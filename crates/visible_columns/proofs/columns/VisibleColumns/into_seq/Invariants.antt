use Rattle.std.proofs.Common.{◌≡◌, ◌+◌, ◌<◌, ◌^◌, ◌++◌, length}
use Rattle.std.specs.BTreeMap.{get_by_text}
use Rattle.std.specs.Vec.Iter.{into_iter_items}
use Rattle.visible_columns.specs.Slots.{slots_seen}
use Rattle.visible_columns.proofs.columns.VisibleColumns.into_seq.Given as goal

abbrev pub invariant-loop-column : goal.invariant-loop-column
invariant-loop-column l = record {
  seen : l.columns ++ slots_seen (get_by_text l.names) l.slot (into_iter_items l.column-iterator) ≡ l.fn.self;
  short : l.slot + length (into_iter_items l.column-iterator) < 2 ^ 64;
}
