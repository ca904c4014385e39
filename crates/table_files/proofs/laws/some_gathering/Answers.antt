use Rattle.table_files.proofs.Contents.{some_gathering}
use Rattle.table_files.proofs.laws.some_gathering.Goals as goal

pub returns : goal.returns
returns c = some_gathering
