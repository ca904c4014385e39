use Rattle.std.proofs.Common.{◌≡◌, length}
use Rattle.std.specs.Vec.Iter.{into_iter_items, into_iter_len}
use Rattle.stats_groups.specs.Cells.{put_cells}
use Rattle.stats_groups.proofs.cells.put_cells.Given as goal

abbrev pub invariant-loop-cell : goal.invariant-loop-cell
invariant-loop-cell l = record {
  counted : into_iter_len l.cell-iterator ≡ length (into_iter_items l.cell-iterator);
  row : put_cells l.row l.left (into_iter_items l.cell-iterator) ≡ put_cells l.initial.row l.columns l.fn.cells.items;
}
