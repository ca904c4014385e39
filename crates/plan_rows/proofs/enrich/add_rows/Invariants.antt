use Rattle.std.proofs.Common.{◌≡◌, ◌++◌, map, take}
use Rattle.plan_semantics.specs.Taken.{match_row}
use Rattle.plan_rows.proofs.enrich.add_rows.Given as goal

abbrev pub invariant-loop-row : goal.invariant-loop-row
invariant-loop-row l = l.lookup.rows ≡ l.initial.lookup.rows ++ map (match_row l.policy l.columns) (take l.row-index l.table)
