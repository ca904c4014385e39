use Rattle.table_columns.proofs.Lawful.{present_stand}
use Rattle.table_columns.proofs.laws.present_cells_stand.Goals as goal

pub returns : goal.returns
returns c = present_stand
