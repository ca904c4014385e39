use Rattle.std.proofs.Common.{◌≡◌, take}
use Rattle.esql_scalar.specs.Rows.{row_of}
use Rattle.plan_semantics.specs.Plans.{shown_row}
use Rattle.plan_rows.proofs.run.shown_row.Given as goal

abbrev pub invariant-loop-column : goal.invariant-loop-column
invariant-loop-column l = l.shown.items ≡ shown_row (take l.column-index l.output) (row_of l.row)
