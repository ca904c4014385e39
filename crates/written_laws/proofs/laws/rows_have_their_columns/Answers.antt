use Rattle.written_laws.proofs.RowsNamed.{are_rows}
use Rattle.written_laws.proofs.laws.rows_have_their_columns.Goals as goal

pub returns : goal.returns
returns c text catalog held query columns = are_rows text held catalog query columns
