use Rattle.std.proofs.Common.{take}
use Rattle.dissect_grok.specs.Numbered.{IsIndex}
use Rattle.dissect_grok.proofs.index.index_of.Given as goal

abbrev pub invariant-loop-number : goal.invariant-loop-number
invariant-loop-number l = IsIndex (take l.number l.names) l.index
