use Rattle.std.proofs.Common.{◌≡◌, ◌++◌}
use Rattle.source_columns.specs.Gathered.{columns_in}
use Rattle.source_columns.proofs.gathered.columns_from.Given as goal

abbrev pub invariant-loop-name : goal.invariant-loop-name
invariant-loop-name l = l.columns ++ columns_in l.name-iterator ≡ columns_in l.gathered.entries
