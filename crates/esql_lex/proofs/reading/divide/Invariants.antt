use Rattle.std.proofs.Common.{◌-◌, ◌≤◌, length, drop}
use Rattle.esql_lex.specs.declared.mode.State.TheVariants.{First}
use Rattle.esql_lex.specs.Tokens.{Divides}
use Rattle.esql_lex.proofs.reading.divide.Given as goal

abbrev pub invariant-tokens : goal.invariant-tokens
invariant-tokens l = record { within : l.at ≤ length l.text; divides : Divides l.tokens First 0 l.text l.state l.at (drop l.at l.text) }

abbrev pub decreases-tokens : goal.decreases-tokens
decreases-tokens l = length l.text - l.at
