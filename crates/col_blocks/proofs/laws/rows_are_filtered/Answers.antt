use Rattle.col_blocks.proofs.Lawful.{filtered_rows}
use Rattle.col_blocks.proofs.laws.rows_are_filtered.Goals as goal

pub returns : goal.returns
returns c keeps columns = filtered_rows keeps columns
