use Rattle.std.proofs.Common.{◌≡◌, length}
use Rattle.warn_log.specs.Logs.{logged, failures_at}
use Rattle.warn_log.proofs.log.Log.note_page.Given as goal

abbrev pub invariant-loop-failure : goal.invariant-loop-failure
invariant-loop-failure l = record {
  log : l.self ≡ logged l.initial.self (failures_at l.node l.yielded);
  nodes : length l.self ≡ length l.initial.self;
}
