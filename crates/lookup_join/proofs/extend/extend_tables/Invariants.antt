use Rattle.std.proofs.Common.{◌≡◌, ◌++◌}
use Rattle.std.specs.Vec.Iter.{into_iter_items}
use Rattle.lookup_join.proofs.extend.extend_tables.Given as goal

abbrev pub invariant-loop-table : goal.invariant-loop-table
invariant-loop-table l = l.tables ++ into_iter_items l.table-iterator ≡ l.initial.tables ++ into_iter_items l.initial.table-iterator
