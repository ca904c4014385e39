use Rattle.table_files.proofs.OneCatalog.{one_loading}
use Rattle.table_files.proofs.laws.one_loading.Goals as goal

pub returns : goal.returns
returns c = one_loading
