use Rattle.std.proofs.Common.{◌≡◌, take}
use Rattle.name_rules.specs.NameRules.{at_places}
use Rattle.plan_writing.specs.Writings.{joined}
use Rattle.plan_writing.proofs.columns.columns_at.Given as goal

abbrev pub invariant-loop-place : goal.invariant-loop-place
invariant-loop-place l = l.visible ≡ at_places (take l.place-index l.places) (joined l.apart.names l.apart.shown)
