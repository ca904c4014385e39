use Rattle.std.proofs.Common.{take}
use Rattle.source_columns.specs.Index.{IsIndex}
use Rattle.lookup_join.proofs.index.index_of.Given as goal

abbrev pub invariant-loop-number : goal.invariant-loop-number
invariant-loop-number l = IsIndex (take l.number l.tables) l.index
