use Rattle.std.proofs.Common.{◌++◌, ◌∙◌, ap}
use Rattle.std.specs.Vec.Iter.{into_iter_items}
use Rattle.plan_rows.specs.Kept.{kept_expanded, expanded_cells}
use Rattle.plan_rows.proofs.ListTurns.{gives_turn}
use Rattle.plan_rows.proofs.steps.expand_rows.Goals as goal

pub loop-row-preserved : goal.loop-row-preserved
loop-row-preserved c =
    gives_turn (kept_expanded c.args.id c.args.to) c.loop-row.new c.expand_row.new.new c.in-Some.row (into_iter_items c.next.new.self) (into_iter_items c.loop-row.row-iterator) c.args.rows
    c.loop-row.invariant c.in-Some.ensures.steps.0
    (c.in_ok-expand_row.ensures ∙ ap (λ cell. c.loop-row.new ++ expanded_cells c.in-Some.row c.args.to.0 cell) c.in_ok-cell.ensures)
