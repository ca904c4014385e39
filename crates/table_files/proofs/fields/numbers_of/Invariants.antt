use Rattle.std.proofs.Common.{◌≡◌, take, map}
use Rattle.table_files.specs.Policies.{number_of}
use Rattle.table_files.proofs.fields.numbers_of.Given as goal

abbrev pub invariant-loop-name : goal.invariant-loop-name
invariant-loop-name l = l.numbers ≡ map (number_of l.fn.findings.tables) (take l.name-index l.names)
