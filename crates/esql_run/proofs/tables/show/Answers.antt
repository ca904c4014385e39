use Rattle.esql_ast.proofs.WarnedFit.{warned_nodes_fit}
use Rattle.plan_rows.specs.Held.{tables_held}
use Rattle.esql_run.proofs.ShownMeanings.{shown_means}
use Rattle.esql_run.proofs.tables.show.Goals as goal

pub print-requires : goal.print-requires
print-requires c = warned_nodes_fit c.args.text.now c.args.query.now c.requires.fits

pub returns-clause-told : goal.returns-clause-told
returns-clause-told c =
    shown_means c.args.format c.args.text.now c.args.query.now (tables_held c.args.prepared.now.catalog c.args.tables.now) c.args.prepared.now _ _ _ _ _ c.requires.tables.shapes c.requires.agrees
    c.in_ok-columns.ensures.columns c.in_ok-columns.ensures.rows c.in_ok-columns.ensures.log c.in_ok-shown.ensures c.in_ok-print.ensures.failures
