use Rattle.std.proofs.Common.{sym}
use Rattle.dissect_grok.proofs.PlaceSteps.{column_added}
use Rattle.dissect_grok.proofs.columns.columns_of.Goals as goal

pub loop-place-preserved : goal.loop-place-preserved
loop-place-preserved c =
    column_added c.args.places.now c.loop-place.place-index c.place-item.result c.loop-place.columns c.add_column.new.columns c.loop-place-test.true c.place-item.is c.loop-place.invariant c.in_ok-add_column.ensures
