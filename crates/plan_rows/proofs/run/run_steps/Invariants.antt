use Rattle.std.proofs.Common.{◌≡◌, ◌++◌, drop, length}
use Rattle.plan_semantics.specs.Steps.{rows_after, failures_after}
use Rattle.warn_log.specs.Logs.{logged}
use Rattle.plan_rows.specs.Kept.{rows_of}
use Rattle.plan_rows.specs.Settings.{held_by}
use Rattle.plan_rows.proofs.run.run_steps.Given as goal

abbrev pub invariant-loop-step : goal.invariant-loop-step
invariant-loop-step l = record {
  rows : rows_after (held_by l.setting) (drop l.step-index l.steps) (rows_of l.rows) ≡ rows_after (held_by l.setting) l.steps (rows_of l.initial.rows);
  log : logged l.log (failures_after (held_by l.setting) (drop l.step-index l.steps) (rows_of l.rows)) ≡ logged l.initial.log (failures_after (held_by l.setting) l.steps (rows_of l.initial.rows));
  nodes : length l.log ≡ length l.initial.log;
}
