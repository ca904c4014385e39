use Rattle.ndjson_load.specs.Rows.{cell_of}
use Rattle.file_laws.proofs.FirstFaults.{first_fault}
use Rattle.file_laws.proofs.laws.first_bad_column.Goals as goal

pub returns : goal.returns
returns c = λ line columns document fault is. first_fault (cell_of line document) columns fault is
