use Rattle.std.proofs.Common.{◌≡◌}
use Rattle.warn_log.specs.Logs.{empty_log}
use Rattle.warn_log.proofs.log.Log.open.Given as goal

abbrev pub invariant-loop : goal.invariant-loop
invariant-loop l = l.kept.items ≡ empty_log l.counter
