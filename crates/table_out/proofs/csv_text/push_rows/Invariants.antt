use Rattle.std.proofs.Common.{ℕ, List, [], ◌++◌, take}
use Rattle.std.specs.List.{flat_map}
use Rattle.csv.specs.Writing.{default_writer, row_text}
use Rattle.table_out.specs.Csv.{fields_of}
use Rattle.table_out.specs.Writers.{Stands}
use Rattle.table_out.proofs.csv_text.push_rows.Given as goal

abbrev pub invariant-loop-row : goal.invariant-loop-row
invariant-loop-row l = (before : List ℕ) → Stands l.initial.writer before [] → Stands l.writer (before ++ flat_map (λ row. row_text default_writer (fields_of row)) (take l.row-index l.rows)) []
