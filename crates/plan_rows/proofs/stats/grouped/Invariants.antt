use Rattle.std.proofs.Common.{◌≡◌, length}
use Rattle.std.specs.Vec.Iter.{into_iter_items, into_iter_len}
use Rattle.plan_rows.proofs.StatsRows.{grouped_rows, with_rows}
use Rattle.plan_rows.proofs.stats.grouped.Given as goal

abbrev pub invariant-loop-row : goal.invariant-loop-row
invariant-loop-row l = record {
  counted : into_iter_len l.row-iterator ≡ length (into_iter_items l.row-iterator);
  rows : with_rows l.aggregates l.groups (into_iter_items l.row-iterator) l.grouped ≡ grouped_rows l.aggregates l.groups l.fn.rows;
}
