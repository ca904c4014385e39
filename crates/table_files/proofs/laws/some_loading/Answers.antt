use Rattle.table_files.proofs.SomeContents.{some_loading}
use Rattle.table_files.proofs.laws.some_loading.Goals as goal

pub returns : goal.returns
returns c = some_loading
