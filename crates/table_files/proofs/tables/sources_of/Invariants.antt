use Rattle.std.proofs.Common.{◌≡◌, map}
use Rattle.table_files.specs.Found.{table_in}
use Rattle.table_files.proofs.tables.sources_of.Given as goal

abbrev pub invariant-loop-found : goal.invariant-loop-found
invariant-loop-found l = map table_in l.sources ≡ l.yielded
