-- The exit status of each status.
use Rattle.std.specs.Prelude.{ℕ}
use Rattle.esql_run.specs.declared.status.Status.{Status}
use Rattle.esql_run.specs.declared.status.Status.TheVariants.{Done, Refused, Usage, BadData, ReadFault, WriteFault, NoMemory, PatternRoom}

abbrev pub code_of : Status → ℕ
code_of Done = 0
code_of Refused = 1
code_of Usage = 2
code_of BadData = 3
code_of ReadFault = 4
code_of WriteFault = 5
code_of NoMemory = 6
code_of PatternRoom = 7
