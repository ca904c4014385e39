use Rattle.std.proofs.Common.{◌≡◌, take}
use Rattle.std.specs.String.{string_bytes}
use Rattle.warn_log.specs.Logs.{warned_by}
use Rattle.warn_log.proofs.log.Log.print.Given as goal

abbrev pub invariant-loop-at : goal.invariant-loop-at
invariant-loop-at l = string_bytes l.out ≡ warned_by l.text (take l.at-index l.at-items) l.self
