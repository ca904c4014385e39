use Rattle.std.proofs.Common.{◌≡◌, map, take}
use Rattle.warn_log.proofs.log.each_of.Given as goal

abbrev pub invariant-loop-cause : goal.invariant-loop-cause
invariant-loop-cause l = map (λ cause. cause.now) l.each.items ≡ take l.cause-index l.causes
