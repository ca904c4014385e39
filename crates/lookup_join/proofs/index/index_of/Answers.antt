use Rattle.std.proofs.Common.{sym, ◌∙◌}
use Rattle.source_columns.proofs.Names.{one_more}
use Rattle.lookup_join.proofs.index.index_of.Goals as goal

pub loop-number-preserved : goal.loop-number-preserved
loop-number-preserved c = λ name.
    c.in_ok-add_name.ensures name
    ∙ one_more c.args.tables.now c.loop-number.number c.index-tables-number.result c.as_str.result.now name c.loop-number-test.true (sym c.index-tables-number.is) c.as_str.ensures _ (c.loop-number.invariant name)
