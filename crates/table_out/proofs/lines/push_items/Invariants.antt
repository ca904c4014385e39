use Rattle.std.proofs.Common.{◌≡◌, ◌++◌, drop, map}
use Rattle.std.specs.List.{zip}
use Rattle.std.specs.String.{string_bytes}
use Rattle.answer_text.specs.Txt.{line_of, printed}
use Rattle.table_out.proofs.lines.push_items.Given as goal

abbrev pub invariant-loop-place : goal.invariant-loop-place
invariant-loop-place g l =
    let texts = map (λ item. printed (g.T.Print.text item)) l.items in
    string_bytes l.out ++ line_of (drop l.place (zip l.widths texts)) ≡ string_bytes l.initial.out ++ line_of (zip l.widths texts)
