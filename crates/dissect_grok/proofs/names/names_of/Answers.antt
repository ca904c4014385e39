use Rattle.std.proofs.Common.{take}
use Rattle.dissect_grok.proofs.NamesOf.{names_distinct}
use Rattle.dissect_grok.proofs.names.names_of.Goals as goal

pub returns-clause-distinct : goal.returns-clause-distinct
returns-clause-distinct c = names_distinct (take c.loop-key.key-index c.args.keys.now) c.loop-key.names c.loop-key.invariant.0
