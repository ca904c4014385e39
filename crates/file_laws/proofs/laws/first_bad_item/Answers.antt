use Rattle.ndjson_load.specs.Rows.{taken_item}
use Rattle.file_laws.proofs.FirstFaults.{first_fault}
use Rattle.file_laws.proofs.laws.first_bad_item.Goals as goal

pub returns : goal.returns
returns c = λ column items cause is. first_fault (taken_item column) items cause is
