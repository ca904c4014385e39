use Rattle.std.proofs.Common.{[], ◌∷◌, ◌++◌, ◌∙◌, ap, length, Some}
use Rattle.std.specs.Vec.Iter.{into_iter_items}
use Rattle.esql_scalar.specs.Rows.{row_of}
use Rattle.plan_semantics.specs.Taken.{taken_of_cell, grokked_by}
use Rattle.plan_rows.specs.Kept.{kept_new, kept_taken}
use Rattle.plan_rows.proofs.ListTurns.{gives_turn, logged_turn}
use Rattle.plan_rows.proofs.cuts.grok_rows.Goals as goal

pub loop-row-preserved : goal.loop-row-preserved
loop-row-preserved c =
    let items = into_iter_items c.loop-row.row-iterator in
    let rest = into_iter_items c.next.new.self in
    let next = c.in-Some.ensures.steps.0 in
    record {
      rows = gives_turn (kept_taken (λ count cell. taken_of_cell count (grokked_by c.args.node (Some c.args.grok.now)) cell) c.args.input c.args.to.now) c.loop-row.new c.push.new.self c.in-Some.row rest items c.args.rows
          c.loop-row.invariant.rows next
          (c.in_ok-push.ensures.ok ∙ ap (λ row. c.loop-row.new ++ row ∷ []) (c.in_ok-put_new.ensures ∙ ap (kept_new c.in-Some.row c.args.to.now) c.in_ok-cells.ensures.cells));
      log = logged_turn (λ row. (taken_of_cell (length c.args.to.now) (grokked_by c.args.node (Some c.args.grok.now)) (row_of row c.args.input.0)).failures) c.args.log.now c.loop-row.log c.grok_row.new.log
          c.in-Some.row rest items c.args.rows c.loop-row.invariant.log next c.in_ok-cells.ensures.log;
      nodes = c.in_ok-cells.ensures.nodes ∙ c.loop-row.invariant.nodes;
    }
