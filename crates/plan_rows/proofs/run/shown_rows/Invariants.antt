use Rattle.std.proofs.Common.{◌≡◌, map, take}
use Rattle.plan_semantics.specs.Plans.{shown_row}
use Rattle.plan_rows.specs.Kept.{rows_of}
use Rattle.plan_rows.proofs.run.shown_rows.Given as goal

abbrev pub invariant-loop-row : goal.invariant-loop-row
invariant-loop-row l = l.shown ≡ map (shown_row l.output) (rows_of (take l.row-index l.rows))
