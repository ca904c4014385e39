use Rattle.std.proofs.Common.{[], ◌∷◌, ◌++◌, ◌∙◌, ap, Some}
use Rattle.std.specs.Vec.Iter.{into_iter_items}
use Rattle.plan_semantics.specs.Taken.{taken_of_cell, dissected_by}
use Rattle.plan_rows.specs.Kept.{kept_new, kept_taken}
use Rattle.plan_rows.proofs.ListTurns.{gives_turn}
use Rattle.plan_rows.proofs.cuts.dissect_rows.Goals as goal

pub loop-row-preserved : goal.loop-row-preserved
loop-row-preserved c =
    let items = into_iter_items c.loop-row.row-iterator in
    let rest = into_iter_items c.next.new.self in
    let next = c.in-Some.ensures.steps.0 in
    gives_turn (kept_taken (λ count cell. taken_of_cell count (dissected_by (Some c.args.dissect.now)) cell) c.args.input c.args.to.now) c.loop-row.new c.push.new.self c.in-Some.row rest items c.args.rows
    c.loop-row.invariant next
    (c.in_ok-push.ensures.ok ∙ ap (λ row. c.loop-row.new ++ row ∷ []) (c.in_ok-put_new.ensures ∙ ap (kept_new c.in-Some.row c.args.to.now) c.in_ok-cells.ensures))
