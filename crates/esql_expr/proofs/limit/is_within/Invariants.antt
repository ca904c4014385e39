use Rattle.std.proofs.Common.{◌≡◌, ◌≤◌, length, reverse}
use Rattle.esql_expr.specs.Machine.{up}
use Rattle.esql_expr.proofs.limit.is_within.Given as goal

abbrev pub decreases-loop-frame : goal.decreases-loop-frame
decreases-loop-frame l = length l.rest

abbrev pub invariant-loop-frame : goal.invariant-loop-frame
invariant-loop-frame l = record { same : up (reverse l.rest) l.now ≡ up (reverse l.frames) l.depth; fits : l.now ≤ 4294967296 }
