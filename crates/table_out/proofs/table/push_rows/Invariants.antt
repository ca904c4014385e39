use Rattle.std.proofs.Common.{◌≡◌, ◌++◌, take, codes}
use Rattle.std.specs.List.{flat_map, zip}
use Rattle.std.specs.String.{string_bytes}
use Rattle.answer_text.specs.Txt.{line_of, texts_of}
use Rattle.table_out.proofs.table.push_rows.Given as goal

abbrev pub invariant-loop-row : goal.invariant-loop-row
invariant-loop-row l = string_bytes l.out ≡ string_bytes l.initial.out ++ flat_map (λ row. line_of (zip l.widths (texts_of row)) ++ codes "\n") (take l.row-index l.rows)
