use Rattle.std.proofs.Common.{◌≡◌, ◌++◌}
use Rattle.std.specs.Vec.Iter.{into_iter_items}
use Rattle.plan_writing.specs.Writings.{shown_under}
use Rattle.plan_writing.proofs.columns.columns_renamed.Given as goal

abbrev pub invariant-loop-one : goal.invariant-loop-one
invariant-loop-one l = l.visible ++ shown_under (into_iter_items l.one-iterator) l.shown ≡ shown_under l.fn.renamed l.shown
