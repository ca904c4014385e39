use Rattle.std.proofs.Common.{◌∙◌}
use Rattle.visible_columns.proofs.Firsts.{known_at}
use Rattle.visible_columns.proofs.names.names_of.Goals as goal

pub loop-slot-preserved : goal.loop-slot-preserved
loop-slot-preserved c = λ name.
    c.in_ok-add_first.ensures name
    ∙ known_at c.args.columns.now c.loop-slot.slot c.index-columns-slot.result c.as_str.result.now name c.loop-slot-test.true c.index-columns-slot.is c.as_str.ensures _ (c.loop-slot.invariant name)
