use Rattle.std.proofs.Common.{◌≡◌, ◌<◌, ◌∙◌, ap, sym, subst, length, arith}
use Rattle.std.proofs.lemmas.List.Elements.{All-get_or}
use Rattle.esql_plan.specs.declared.step.Step.{Step}
use Rattle.plan_rows.specs.Kept.{kept_rows}
use Rattle.plan_rows.specs.Settings.{bounds_over, held_by}
use Rattle.plan_rows.specs.Runs.{CanRun}
use Rattle.plan_rows.proofs.Turns.{rows_turn, log_turn}
use Rattle.plan_rows.proofs.run.run_steps.Goals as goal

pub loop-step-preserved : goal.loop-step-preserved
loop-step-preserved c =
    let held = held_by c.args.setting in
    let bounds = bounds_over c.args.setting in
    let steps = c.args.steps.now in
    let place = c.loop-step.step-index in
    let step = c.step-item.result in
    let rows = c.loop-step.rows in
    let new = c.in_ok-rows.rows in
    let made = c.in_ok-rows.ensures.rows in
    let within : place < length steps = omega arith in
    let run : CanRun bounds step =
    subst (CanRun bounds) (sym c.step-item.is) (All-get_or (CanRun bounds) steps place step within c.requires.run) in
    record {
      rows = rows_turn held bounds steps place step rows new within c.step-item.is run made ∙ c.loop-step.invariant.rows;
      log = log_turn held bounds steps place step rows new within c.step-item.is run made c.loop-step.log c.run_step.new.log c.in_ok-rows.ensures.log
          ∙ c.loop-step.invariant.log;
      nodes = c.in_ok-rows.ensures.nodes ∙ c.loop-step.invariant.nodes;
    }
