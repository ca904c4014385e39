use Rattle.std.proofs.Common.{◌≡◌, ◌++◌, length}
use Rattle.std.specs.Vec.Iter.{into_iter_items, into_iter_len}
use Rattle.plan_semantics.specs.Taken.{joined_cells}
use Rattle.plan_rows.proofs.cuts.joined.Given as goal

abbrev pub invariant-loop-cell : goal.invariant-loop-cell
invariant-loop-cell l = record {
  counted : into_iter_len l.left ≡ length (into_iter_items l.left);
  both : l.both ++ joined_cells (into_iter_items l.cell-iterator) (into_iter_items l.left) ≡ joined_cells l.fn.cells l.fn.others;
}
