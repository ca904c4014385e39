use Rattle.std.proofs.Common.{◌≡◌, ◌+◌, ◌++◌, ◌∷◌, [], drop, Err, sym, ap, ◌∙◌}
use Rattle.std.proofs.lemmas.List.{at_drop_more}
use Rattle.std.proofs.lemmas.Result.{err_from_is_err_and}
use Rattle.serde_json.specs.View.{view}
use Rattle.ndjson_load.specs.Joining.{join_all, after}
use Rattle.ndjson_load.specs.Rows.{cell_of, cells_of}
use Rattle.ndjson_load.proofs.Joins.{after_more, after_fault}
use Rattle.ndjson_load.proofs.Loads.{IfBadRow-weaker}
use Rattle.ndjson_load.proofs.table.read_cells.Goals as goal

pub loop-column-preserved : goal.loop-column-preserved
loop-column-preserved c =
    let columns = c.args.columns.now in
    let f = cell_of c.args.number (view c.args.object.now) in
    let row = c.loop-column.row in
    let i = c.loop-column.column-index in
    let column = c.column-item.result in
    let cell = c.in_ok-cell.cell in
    let rest = join_all f (drop (i + 1) columns) in
    let cut = at_drop_more (λ cs. after row (join_all f cs)) columns i column c.loop-column-test.true in
    let here = ap (λ x. after row (join_all f (x ∷ drop (i + 1) columns))) (sym c.column-item.is) in
    c.loop-column.invariant ∙ cut ∙ here ∙ after_more row (row ++ cell ∷ []) (f column) rest (ap (after row) c.in_ok-cell.ensures.ok) ∙ ap (λ r. after r rest) (sym c.in_ok-push.ensures.ok)

pub returns-in_err-cell-clause-bad : goal.returns-in_err-cell-clause-bad
returns-in_err-cell-clause-bad c =
    let columns = c.args.columns.now in
    let f = cell_of c.args.number (view c.args.object.now) in
    let row = c.loop-column.row in
    let i = c.loop-column.column-index in
    let column = c.column-item.result in
    let rest = join_all f (drop (i + 1) columns) in
    let cut = at_drop_more (λ cs. after row (join_all f cs)) columns i column c.loop-column-test.true in
    let here = ap (λ x. after row (join_all f (x ∷ drop (i + 1) columns))) (sym c.column-item.is) in
    let p = err_from_is_err_and c.from_residual.result c.from_residual.ensures.1 in
    rw (p.1, p.2) (IfBadRow-weaker _ (λ bad. f column ≡ Err bad) (λ bad. cells_of c.args.number columns (view c.args.object.now) ≡ Err bad)
    (λ bad h. c.loop-column.invariant ∙ cut ∙ here ∙ after_fault row bad (f column) rest (ap (after row) h)) c.in_err-cell.ensures.bad)
