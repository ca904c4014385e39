use Rattle.std.proofs.Common.{◌≡◌, ℕ, List, ◌++◌, length, map, take}
use Rattle.answer_text.specs.Txt.{texts_of}
use Rattle.table_out.specs.Widths.{AreWidths}
use Rattle.table_out.proofs.widths.widen_by_rows.Given as goal

abbrev pub invariant-loop-row : goal.invariant-loop-row
invariant-loop-row l = (length l.widths ≡ length l.initial.widths)
    × ((lines : List (List (List ℕ))) → AreWidths l.initial.widths lines → AreWidths l.widths (lines ++ map texts_of (take l.row-index l.rows)))
