use Rattle.table_columns.proofs.Lawful.{rows_wide}
use Rattle.table_columns.proofs.laws.rows_are_wide.Goals as goal

pub returns : goal.returns
returns c = rows_wide
