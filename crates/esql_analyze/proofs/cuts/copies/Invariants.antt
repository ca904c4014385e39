use Rattle.std.proofs.Common.{◌≡◌, take}
use Rattle.esql_analyze.proofs.cuts.copies.Given as goal

abbrev pub invariant-loop-column : goal.invariant-loop-column
invariant-loop-column l = l.these ≡ take l.column-index l.columns
