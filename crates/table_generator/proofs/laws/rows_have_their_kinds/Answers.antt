use Rattle.table_generator.proofs.RowKinds.{table_kinded}
use Rattle.table_generator.proofs.laws.rows_have_their_kinds.Goals as goal

pub returns : goal.returns
returns c = table_kinded
