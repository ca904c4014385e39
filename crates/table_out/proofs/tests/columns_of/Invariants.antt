use Rattle.std.proofs.Common.{◌≡◌, length}
use Rattle.table_out.proofs.tests.columns_of.Given as goal

abbrev pub invariant-loop-name : goal.invariant-loop-name
invariant-loop-name l = length l.columns ≡ l.name-index
