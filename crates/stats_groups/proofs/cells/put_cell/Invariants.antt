use Rattle.std.proofs.Common.{◌≡◌, ◌≤◌, length}
use Rattle.stats_groups.specs.Cells.{put_cell}
use Rattle.stats_groups.proofs.cells.put_cell.Given as goal

abbrev pub invariant-loop : goal.invariant-loop
invariant-loop l = record {
  long : length l.row ≡ l.counter;
  row : put_cell l.row l.place l.fn.cell ≡ put_cell l.initial.row l.place l.fn.cell;
}
