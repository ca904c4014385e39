use Rattle.std.proofs.Common.{◌≡◌, ◌-◌, ◌++◌}
use Rattle.table_generator.specs.Rows.{next_number, rows_behind, generated_rows}
use Rattle.table_generator.proofs.rows.generated_rows.Given as goal

abbrev pub invariant-loop-before : goal.invariant-loop-before
invariant-loop-before l = l.made ++ rows_behind (l.rows - l.before) l.before (next_number l.number) ≡ generated_rows l.fn.seed l.fn.rows
