use Rattle.std.proofs.Common.{◌≡◌, take}
use Rattle.table_columns.proofs.table.TableColumns.from_rows.Given as goal

abbrev pub invariant-loop-row : goal.invariant-loop-row
invariant-loop-row l = l.table ≡ record { kinds = l.kinds; rows = take l.row-index l.rows }
