use Rattle.std.proofs.Common.{◌≡◌, map, take}
use Rattle.query_semantics.specs.Written.{scan_column}
use Rattle.plan_writing.proofs.columns.scan_columns.Given as goal

abbrev pub invariant-loop-column : goal.invariant-loop-column
invariant-loop-column l = l.columns ≡ map scan_column (take l.column-index l.visible)
