use Rattle.std.proofs.Common.{[], ◌∷◌, ◌++◌, ◌∙◌, ap}
use Rattle.std.specs.Vec.Iter.{into_iter_items}
use Rattle.esql_plan.specs.declared.step.Step.TheVariants.{Eval}
use Rattle.esql_scalar.specs.Rows.{row_of}
use Rattle.plan_semantics.specs.Steps.{step_fails}
use Rattle.plan_rows.specs.Kept.{kept_eval}
use Rattle.stats_groups.specs.Cells.{put_cell}
use Rattle.plan_rows.proofs.ListTurns.{gives_turn, logged_turn}
use Rattle.plan_rows.proofs.steps.eval_rows.Goals as goal

pub loop-row-preserved : goal.loop-row-preserved
loop-row-preserved c =
    let items = into_iter_items c.loop-row.row-iterator in
    let rest = into_iter_items c.next.new.self in
    let next = c.in-Some.ensures.steps.0 in
    let step = Eval c.args.to c.args.expr.now in
    record {
      rows = gives_turn (kept_eval c.args.to c.args.expr.now) c.loop-row.new c.add_row.new.new c.in-Some.row rest items c.args.rows c.loop-row.invariant.rows next
          (c.in_ok-add_row.ensures ∙ ap (λ cell. c.loop-row.new ++ put_cell c.in-Some.row c.args.to.0 cell ∷ []) c.in_ok-cell.ensures.cell);
      log = logged_turn (λ row. step_fails step (row_of row)) c.args.log.now c.loop-row.log c.value_noted.new.log c.in-Some.row rest items c.args.rows
          c.loop-row.invariant.log next c.in_ok-cell.ensures.log;
      nodes = c.in_ok-cell.ensures.nodes ∙ c.loop-row.invariant.nodes;
    }
