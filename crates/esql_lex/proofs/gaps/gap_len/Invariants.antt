use Rattle.std.proofs.Common.{ℕ, ◌≤◌, ◌-◌, drop, length}
use Rattle.esql_lex.specs.Gaps.{BeginsWithPieces}
use Rattle.esql_lex.proofs.gaps.gap_len.Given as goal

abbrev pub invariant-walk : goal.invariant-walk
invariant-walk l = (l.len ≤ length l.text) × ((count : ℕ) × BeginsWithPieces count l.text (drop l.len l.text))

abbrev pub decreases-walk : goal.decreases-walk
decreases-walk l = length l.text - l.len
