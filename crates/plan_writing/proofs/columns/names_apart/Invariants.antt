use Rattle.std.proofs.Common.{◌≡◌, ◌++◌, map}
use Rattle.std.specs.Vec.Iter.{into_iter_items}
use Rattle.query_semantics.specs.Writings.{visible_names}
use Rattle.visible_columns.specs.Columns.{shown_of}
use Rattle.plan_writing.proofs.columns.names_apart.Given as goal

abbrev pub invariant-loop-column : goal.invariant-loop-column
invariant-loop-column l = record {
  names : l.names ++ visible_names (into_iter_items l.column-iterator) ≡ visible_names l.fn.visible;
  shown : l.shown ++ map shown_of (into_iter_items l.column-iterator) ≡ map shown_of l.fn.visible;
}
