use Rattle.std.proofs.Common.{◌≡◌}
use Rattle.std.specs.Vec.Iter.{into_iter_items}
use Rattle.plan_semantics.specs.Groups.{keys_of_cells}
use Rattle.stats_groups.specs.Entries.{cells_of, inputs_of}
use Rattle.stats_groups.specs.Maps.{with_row_at}
use Rattle.stats_groups.proofs.map.add_row.Given as goal

abbrev pub invariant-loop-one : goal.invariant-loop-one
invariant-loop-one l =
    with_row_at l.aggregates (into_iter_items l.one-iterator) (inputs_of l.aggregates l.fn.row) l.groups.entries ≡ with_row_at l.aggregates (keys_of_cells (cells_of l.columns l.fn.row)) (inputs_of l.aggregates l.fn.row) l.initial.groups.entries
