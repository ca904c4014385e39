use Rattle.std.proofs.Common.{◌≡◌, ◌+◌, ◌-◌, drop, length}
use Rattle.std.specs.Option.{option_map}
use Rattle.esql_lex.specs.Gaps.{end_of}
use Rattle.esql_lex.proofs.gaps.end_of.Given as goal

abbrev pub invariant-walk : goal.invariant-walk
invariant-walk l = option_map (λ n. l.at + n) (end_of l.mark (drop l.at l.text)) ≡ end_of l.mark l.text

abbrev pub decreases-walk : goal.decreases-walk
decreases-walk l = length l.text - l.at
