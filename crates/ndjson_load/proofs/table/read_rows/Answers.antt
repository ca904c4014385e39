use Rattle.std.proofs.Common.{◌≡◌, ◌+◌, ◌<◌, ◌∷◌, length, Err, sym, ap, ◌∙◌, arith}
use Rattle.std.specs.List.{after_first}
use Rattle.std.proofs.lemmas.Bool.Decides.{nat_tests}
use Rattle.std.proofs.lemmas.Result.{err_from_is_err_and}
use Rattle.ndjson_load.specs.Joining.{after}
use Rattle.ndjson_load.specs.Rows.{line_rows, lines, rows_from, table_of, without_return}
use Rattle.ndjson_load.proofs.Cuts.{is_end, lines-cut, after_first-shorter}
use Rattle.ndjson_load.proofs.Joins.{after_more, after_fault}
use Rattle.ndjson_load.proofs.Loads.{IfBadRow-weaker}
use Rattle.ndjson_load.proofs.table.read_rows.Goals as goal

pub lines-preserved : goal.lines-preserved
lines-preserved c =
    let columns = c.args.columns.now in
    let rows = c.lines.rows in
    let rest = c.lines.rest in
    let number = c.lines.number in
    let some : 0 < length rest.now = grind (arith, nat_tests, c.lines-test.ensures) in
    let shorter = after_first-shorter rest.now some in
    let cut = lines-cut rest.now some
    ∙ ap (λ l. without_return l ∷ lines (after_first is_end rest.now)) (sym c.cut_line.ensures.line)
    ∙ ap (λ l. l ∷ lines (after_first is_end rest.now)) (sym c.without_return.ensures)
    ∙ ap (λ r. c.without_return.result.now ∷ lines r) (sym c.cut_line.ensures.rest) in
    record {
      rows = c.lines.invariant.rows ∙ ap (λ ls. after rows (rows_from columns (number + 1) ls)) cut
          ∙ after_more rows c.add_line.new.rows (line_rows columns (number + 1, c.without_return.result.now)) (rows_from columns (number + 1 + 1) (lines c.cut_line.result.1.now)) c.in_ok-add_line.ensures;
      count = omega (arith, shorter, ap length c.cut_line.ensures.rest, c.lines.invariant.count);
    }

pub returns-in_err-add_line-clause-bad : goal.returns-in_err-add_line-clause-bad
returns-in_err-add_line-clause-bad c =
    let columns = c.args.columns.now in
    let rows = c.lines.rows in
    let rest = c.lines.rest in
    let number = c.lines.number in
    let some : 0 < length rest.now = grind (arith, nat_tests, c.lines-test.ensures) in
    let cut = lines-cut rest.now some
    ∙ ap (λ l. without_return l ∷ lines (after_first is_end rest.now)) (sym c.cut_line.ensures.line)
    ∙ ap (λ l. l ∷ lines (after_first is_end rest.now)) (sym c.without_return.ensures)
    ∙ ap (λ r. c.without_return.result.now ∷ lines r) (sym c.cut_line.ensures.rest) in
    let f = line_rows columns (number + 1, c.without_return.result.now) in
    let later = rows_from columns (number + 1 + 1) (lines c.cut_line.result.1.now) in
    let p = err_from_is_err_and c.from_residual.result c.from_residual.ensures.1 in
    rw (p.1, p.2) (IfBadRow-weaker _ (λ bad. after rows f ≡ Err bad) (λ bad. table_of columns c.args.bytes.now ≡ Err bad)
    (λ bad h. c.lines.invariant.rows ∙ ap (λ ls. after rows (rows_from columns (number + 1) ls)) cut ∙ after_fault rows bad f later h) c.in_err-add_line.ensures)
