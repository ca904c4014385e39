use Rattle.std.proofs.Common.{◌≡◌, ◌≤◌, ◌-◌, drop, length}
use Rattle.esql_lex.specs.Steps.{past, closing_len}
use Rattle.esql_lex.proofs.quotes.closing_len.Given as goal

abbrev pub invariant-walk : goal.invariant-walk
invariant-walk l = record { within : l.at ≤ length l.text; found : l.found ≤ length l.text; so_far : closing_len l.text ≡ past l.at l.found (closing_len (drop l.at l.text)) }

abbrev pub decreases-walk : goal.decreases-walk
decreases-walk l = length l.text - l.at
