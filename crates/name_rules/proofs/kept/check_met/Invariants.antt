use Rattle.std.proofs.Common.{◌≡◌, None, take}
use Rattle.name_rules.specs.NameRules.{first_unmet}
use Rattle.name_rules.proofs.kept.check_met.Given as goal

abbrev pub invariant-loop-pattern : goal.invariant-loop-pattern
invariant-loop-pattern l = first_unmet l.names (take l.pattern-index l.patterns) ≡ None
