use Rattle.std.proofs.Common.{◌≡◌, [], ◌∷◌, ◌++◌, ◌+◌, ◌∙◌, ap, sym, length, arith}
use Rattle.std.proofs.lemmas.Result.{on_ok_weaker}
use Rattle.std.proofs.lemmas.List.{length-append}
use Rattle.esql_types.specs.declared.value.Value.{Value}
use Rattle.stats_groups.specs.Cells.{put_cell}
use Rattle.stats_groups.proofs.CellSteps.{put_within, put_last, put_behind_null}
use Rattle.stats_groups.proofs.cells.put_cell.Goals as goal

pub returns-then-place-len : goal.returns-then-place-len
returns-then-place-len c = c.replace.ensures.new ∙ sym (put_within c.args.row.now c.args.place c.args.cell (omega arith))

pub loop-preserved : goal.loop-preserved
loop-preserved c =
    let before = c.loop.row in
    let made = c.in_ok-push.ensures.ok ∙ ap (λ cell. before ++ cell ∷ []) c.null.ensures in
    let longer = length-append before ([] ∷ []) in
    record {
      long = ap length made ∙ longer ∙ ap (λ long. long + 1) c.loop.invariant.long;
      row = ap (λ row. put_cell row c.args.place c.args.cell) made ∙ put_behind_null before c.args.place c.args.cell (omega arith) ∙ c.loop.invariant.row;
    }

pub returns : goal.returns
returns c =
    on_ok_weaker c.push-2.result
    (λ made. made ∙ sym (put_last c.loop.row c.args.place c.args.cell (omega arith)) ∙ c.loop.invariant.row)
    c.push-2.ensures.ok
