use Rattle.std.proofs.Common.{◌≡◌, map, take}
use Rattle.number_rules.specs.Sums.{total_of}
use Rattle.esql_plan.specs.Rules.{number_of}
use Rattle.scalar_functions.proofs.list.total.Given as goal

abbrev pub invariant-loop-number : goal.invariant-loop-number
invariant-loop-number l = l.sum ≡ total_of (map number_of (take l.number-index l.list))
