use Rattle.std.proofs.Common.{All, ap, map, option_copied, subst, sym}
use Rattle.esql_types.specs.Spans.{SpanFits}
use Rattle.table_files.specs.declared.tables.FoundTable.{FoundTable}
use Rattle.table_files.specs.Found.{table_in}
use Rattle.table_files.proofs.Places.{tables_fit}
use Rattle.table_files.proofs.loading.load.Goals as goal

pub load_tables-requires : goal.load_tables-requires
load_tables-requires g c =
    subst (All (λ (one : FoundTable). SpanFits c.args.text.now one.span)) (sym (ap (map table_in) c.as_slice.ensures))
    (tables_fit c.args.text.now (option_copied c.args.folder) c.args.query.now c.args.gathered c.requires.fits c.requires.gathered)
