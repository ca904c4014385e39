use Rattle.std.proofs.Common.{◌≡◌, ◌++◌, length}
use Rattle.std.specs.List.{flat_map}
use Rattle.std.specs.Vec.Iter.{into_iter_items}
use Rattle.esql_plan.specs.declared.step.Step.TheVariants.{Eval}
use Rattle.warn_log.specs.Logs.{logged}
use Rattle.plan_rows.specs.Kept.{kept_eval, kept_failures}
use Rattle.plan_rows.proofs.steps.eval_rows.Given as goal

abbrev pub invariant-loop-row : goal.invariant-loop-row
invariant-loop-row l = record {
  rows : l.new ++ flat_map (kept_eval l.to l.expr) (into_iter_items l.row-iterator) ≡ flat_map (kept_eval l.to l.expr) l.fn.rows;
  log : logged l.log (kept_failures (Eval l.to l.expr) (into_iter_items l.row-iterator)) ≡ logged l.initial.log (kept_failures (Eval l.to l.expr) l.fn.rows);
  nodes : length l.log ≡ length l.initial.log;
}
