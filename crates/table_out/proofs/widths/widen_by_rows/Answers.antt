use Rattle.std.proofs.Common.{◌++◌, map, subst, arith}
use Rattle.std.proofs.lemmas.List.{take_all}
use Rattle.answer_text.specs.Txt.{texts_of}
use Rattle.table_out.specs.Widths.{AreWidths}
use Rattle.table_out.proofs.ByPlace.{widened_by_row}
use Rattle.table_out.proofs.widths.widen_by_rows.Goals as goal

pub loop-row-preserved : goal.loop-row-preserved
loop-row-preserved c =
    let kept = c.loop-row.invariant.0 in (
      omega (arith, kept, c.widen.auto.widths),
      widened_by_row c.args.widths.now c.loop-row.widths c.widen.new.widths c.args.rows.now c.row-item.result c.as_slice.result.now c.loop-row.row-index
          c.requires c.loop-row-test.true c.row-item.is c.as_slice.ensures kept (omega (arith, c.widen.auto.widths)) c.in_ok-widen.ensures c.loop-row.invariant.1,
    )

pub returns : goal.returns
returns c lines begun =
    subst (λ rows. AreWidths c.loop-row.widths (lines ++ map texts_of rows)) (take_all c.loop-row.row-index c.args.rows.now c.loop-row-test.false) (c.loop-row.invariant.1 lines begun)
