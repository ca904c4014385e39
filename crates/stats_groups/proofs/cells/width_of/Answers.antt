use Rattle.std.proofs.Common.{◌<◌, All, subst, arith}
use Rattle.std.proofs.lemmas.List.{take_all}
use Rattle.esql_types.specs.declared.names.ColId.{ColId}
use Rattle.stats_groups.proofs.Widths.{width_turn}
use Rattle.stats_groups.proofs.cells.width_of.Goals as goal

pub loop-to-preserved : goal.loop-to-preserved
loop-to-preserved c =
    width_turn (λ (to : ColId). to.0) c.args.columns.now c.loop-to.to-index (record { 0 = 0 }) c.loop-to.width c.width_with-width.result
    c.loop-to.invariant (omega arith) c.width_with-width.ensures.keeps c.width_with-width.ensures.has

pub returns : goal.returns
returns c =
    subst (All (λ (to : ColId). to.0 < c.loop-to.width)) (take_all c.loop-to.to-index c.args.columns.now (omega arith)) c.loop-to.invariant
