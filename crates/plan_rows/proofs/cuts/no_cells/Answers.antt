use Rattle.std.proofs.Common.{◌≡◌, ◌++◌, ◌∷◌, [], ◌∙◌, ap}
use Rattle.plan_rows.proofs.JoinedTurns.{nulls_more}
use Rattle.plan_rows.proofs.cuts.no_cells.Goals as goal

pub loop-preserved : goal.loop-preserved
loop-preserved c =
    c.in_ok-push.ensures.ok
    ∙ ap (λ cell. c.loop.cells ++ cell ∷ []) c.null.ensures
    ∙ ap (λ cells. cells ++ [] ∷ []) c.loop.invariant
    ∙ nulls_more c.loop.counter
