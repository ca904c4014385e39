use Rattle.std.proofs.Common.{◌≡◌, ◌≤◌, ◌+◌, ◌-◌, drop, length}
use Rattle.esql_lex.specs.Forms.{body_len}
use Rattle.esql_lex.proofs.body.Body.len.Given as goal

abbrev pub invariant-walk : goal.invariant-walk
invariant-walk l = record { within : l.len ≤ length l.text; so_far : body_len l.self l.text ≡ l.len + body_len l.self (drop l.len l.text) }

abbrev pub decreases-walk : goal.decreases-walk
decreases-walk l = length l.text - l.len
