use Rattle.std.proofs.Common.{◌≡◌, ◌++◌, length}
use Rattle.std.specs.List.{flat_map}
use Rattle.std.specs.Vec.Iter.{into_iter_items}
use Rattle.esql_plan.specs.declared.step.Step.TheVariants.{Filter}
use Rattle.warn_log.specs.Logs.{logged}
use Rattle.plan_rows.specs.Kept.{kept_if, kept_failures}
use Rattle.plan_rows.proofs.steps.filter_rows.Given as goal

abbrev pub invariant-loop-row : goal.invariant-loop-row
invariant-loop-row l = record {
  rows : l.kept ++ flat_map (kept_if l.condition) (into_iter_items l.row-iterator) ≡ flat_map (kept_if l.condition) l.fn.rows;
  log : logged l.log (kept_failures (Filter l.node l.condition) (into_iter_items l.row-iterator)) ≡ logged l.initial.log (kept_failures (Filter l.node l.condition) l.fn.rows);
  nodes : length l.log ≡ length l.initial.log;
}
