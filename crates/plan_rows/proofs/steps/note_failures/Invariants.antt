use Rattle.std.proofs.Common.{◌≡◌, length}
use Rattle.std.specs.Vec.Iter.{into_iter_items}
use Rattle.plan_semantics.specs.Laws.{AreBelow}
use Rattle.warn_log.specs.Logs.{logged}
use Rattle.plan_rows.proofs.steps.note_failures.Given as goal

abbrev pub invariant-loop-failure : goal.invariant-loop-failure
invariant-loop-failure l = record {
  below : AreBelow (length l.log) (into_iter_items l.failure-iterator);
  log : logged l.log (into_iter_items l.failure-iterator) ≡ logged l.initial.log l.fn.failures;
  nodes : length l.log ≡ length l.initial.log;
}
