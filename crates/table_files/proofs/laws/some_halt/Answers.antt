use Rattle.table_files.proofs.SomeContents.{some_halt}
use Rattle.table_files.proofs.laws.some_halt.Goals as goal

pub returns : goal.returns
returns c = some_halt
