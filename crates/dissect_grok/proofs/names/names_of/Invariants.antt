use Rattle.std.proofs.Common.{◌≡◌, take}
use Rattle.dissect_grok.specs.Numbered.{IsIndex}
use Rattle.dissect_grok.specs.Patterns.{names_of}
use Rattle.dissect_grok.proofs.names.names_of.Given as goal

abbrev pub invariant-loop-key : goal.invariant-loop-key
invariant-loop-key l = (l.names ≡ names_of (take l.key-index l.keys)) × IsIndex l.names l.index
