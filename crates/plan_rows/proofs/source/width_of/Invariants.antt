use Rattle.std.proofs.Common.{◌<◌, All, take}
use Rattle.esql_plan.specs.declared.plan.ScanColumn.{ScanColumn}
use Rattle.plan_rows.proofs.source.width_of.Given as goal

abbrev pub invariant-loop-column : goal.invariant-loop-column
invariant-loop-column l = All (λ (column : ScanColumn). column.to.0 < l.width) (take l.column-index l.scanned)
