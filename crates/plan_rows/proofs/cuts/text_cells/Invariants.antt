use Rattle.std.proofs.Common.{◌≡◌, ◌++◌, map}
use Rattle.std.specs.Vec.Iter.{into_iter_items}
use Rattle.plan_semantics.specs.Taken.{text_cell}
use Rattle.plan_rows.proofs.cuts.text_cells.Given as goal

abbrev pub invariant-loop-text : goal.invariant-loop-text
invariant-loop-text l = l.cells ++ map text_cell (into_iter_items l.text-iterator) ≡ map text_cell l.fn.texts
