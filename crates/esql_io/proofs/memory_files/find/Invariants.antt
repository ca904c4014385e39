use Rattle.std.proofs.Common.{◌≡◌, drop}
use Rattle.esql_io.specs.MemoryFiles.{held_in}
use Rattle.esql_io.proofs.memory_files.find.Given as goal

abbrev pub invariant-loop-place : goal.invariant-loop-place
invariant-loop-place l = held_in (drop l.place l.files) l.name ≡ held_in l.files l.name
