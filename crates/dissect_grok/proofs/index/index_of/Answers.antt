use Rattle.std.proofs.Common.{◌∙◌}
use Rattle.dissect_grok.proofs.Named.{one_more}
use Rattle.dissect_grok.proofs.index.index_of.Goals as goal

pub loop-number-preserved : goal.loop-number-preserved
loop-number-preserved c = λ name.
    c.in_ok-add_name.ensures.numbers name
    ∙ one_more c.args.names.now c.loop-number.number c.index-names-number.result c.as_str.result.now name _ c.loop-number-test.true c.index-names-number.is c.as_str.ensures (c.loop-number.invariant name)
