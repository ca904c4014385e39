use Rattle.std.proofs.Common.{◌≡◌, length}
use Rattle.table_out.proofs.tests.row_of.Given as goal

abbrev pub invariant-loop-numbers : goal.invariant-loop-numbers
invariant-loop-numbers l = length l.row ≡ l.numbers-index
