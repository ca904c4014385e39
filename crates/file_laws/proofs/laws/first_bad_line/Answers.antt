use Rattle.std.specs.List.{enumerate_from}
use Rattle.ndjson_load.specs.Rows.{line_rows, lines}
use Rattle.file_laws.proofs.FirstFaults.{first_fault}
use Rattle.file_laws.proofs.laws.first_bad_line.Goals as goal

pub returns : goal.returns
returns c = λ columns bytes fault is. first_fault (line_rows columns) (enumerate_from 1 (lines bytes)) fault is
