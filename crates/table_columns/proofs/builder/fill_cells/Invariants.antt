use Rattle.std.proofs.Common.{◌≡◌, take}
use Rattle.table_columns.specs.Placing.{filled}
use Rattle.table_columns.proofs.builder.fill_cells.Given as goal

abbrev pub invariant-loop-place : goal.invariant-loop-place
invariant-loop-place l = l.columns.items ≡ filled l.number (take l.place l.cells) l.initial.columns.items
