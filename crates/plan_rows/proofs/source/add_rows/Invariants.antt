use Rattle.std.proofs.Common.{◌≡◌, ◌++◌, map, take}
use Rattle.plan_rows.specs.Places.{cells_in}
use Rattle.plan_rows.proofs.source.add_rows.Given as goal

abbrev pub invariant-loop-row : goal.invariant-loop-row
invariant-loop-row l = l.rows ≡ l.initial.rows ++ map (cells_in l.places) (take l.row-index l.table)
