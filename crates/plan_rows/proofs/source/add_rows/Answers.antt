use Rattle.std.proofs.Common.{[], ◌∷◌, ◌++◌, ◌∙◌, ap, arith}
use Rattle.plan_rows.specs.Places.{cells_in}
use Rattle.plan_rows.proofs.ListTurns.{map_turn}
use Rattle.plan_rows.proofs.source.add_rows.Goals as goal

pub loop-row-preserved : goal.loop-row-preserved
loop-row-preserved c =
    map_turn (cells_in c.args.places.now) c.args.rows.now c.loop-row.rows c.push.new.self c.args.table.now c.loop-row.row-index c.row-item.result
    c.loop-row.invariant (omega arith) c.row-item.is
    (c.in_ok-push.ensures.ok ∙ ap (λ cells. c.loop-row.rows ++ cells ∷ []) c.in_ok-cells_in.ensures)
