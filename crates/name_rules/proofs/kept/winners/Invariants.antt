use Rattle.std.proofs.Common.{◌≡◌, map, take}
use Rattle.name_rules.specs.NameRules.{winner}
use Rattle.name_rules.proofs.kept.winners.Given as goal

abbrev pub invariant-loop-name : goal.invariant-loop-name
invariant-loop-name l = l.won ≡ map (winner l.patterns) (take l.name-index l.names)
