use Rattle.esql_answer.proofs.FewColumns.{appended_few}
use Rattle.esql_answer.proofs.Plans.{written_means}
use Rattle.esql_answer.proofs.prepared.prepare.Goals as goal

pub returns-in-Ok-clause-agrees : goal.returns-in-Ok-clause-agrees
returns-in-Ok-clause-agrees g c =
    written_means c.args.text.now c.args.catalog c.args.query.now c.in-Ok.field-0.plan c.in-Ok.ensures.written.plan c.in-Ok.ensures.shape c.plans_mean_queries.ensures

pub analyze-requires-clause-appended : goal.analyze-requires-clause-appended
analyze-requires-clause-appended g c = appended_few c.args.catalog c.args.query.now c.requires.catalog c.requires.short
