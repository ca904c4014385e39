use Rattle.std.proofs.Common.{◌<◌, All, subst, arith}
use Rattle.std.proofs.lemmas.List.{take_all}
use Rattle.esql_plan.specs.declared.plan.ScanColumn.{ScanColumn}
use Rattle.stats_groups.proofs.Widths.{width_turn}
use Rattle.plan_rows.proofs.source.width_of.Goals as goal

pub loop-column-preserved : goal.loop-column-preserved
loop-column-preserved c =
    width_turn (λ (column : ScanColumn). column.to.0) c.args.scanned.now c.loop-column.column-index c.column-item.result c.loop-column.width c.width_with-width.result
    c.loop-column.invariant (omega arith) c.width_with-width.ensures.keeps
    (subst (λ (column : ScanColumn). column.to.0 < c.width_with-width.result) c.column-item.is c.width_with-width.ensures.has)

pub returns : goal.returns
returns c =
    subst (All (λ (column : ScanColumn). column.to.0 < c.loop-column.width)) (take_all c.loop-column.column-index c.args.scanned.now (omega arith)) c.loop-column.invariant
