use Rattle.table_columns.proofs.Lawful.{others_null}
use Rattle.table_columns.proofs.laws.others_are_null.Goals as goal

pub returns : goal.returns
returns c = others_null
