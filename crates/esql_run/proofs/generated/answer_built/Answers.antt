use Rattle.esql_run.proofs.EachBuilt.{none_unbuilt}
use Rattle.esql_run.proofs.Generations.{catalog_is_one, broken_generated, made_generated, no_fault_judged}
use Rattle.esql_run.proofs.Judged.{error_fits}
use Rattle.esql_run.proofs.generated.answer_built.Goals as goal

pub prepare-requires-clause-catalog : goal.prepare-requires-clause-catalog
prepare-requires-clause-catalog g c = catalog_is_one c.in_ok-catalog.catalog c.in_ok-catalog.ensures

pub prepare-requires-clause-built : goal.prepare-requires-clause-built
prepare-requires-clause-built g c = none_unbuilt c.args.query.now c.requires.built

pub unprepared-requires : goal.unprepared-requires
unprepared-requires g c = error_fits c.args.text.now c.in_ok-catalog.catalog c.args.query.now c.in-Err.error c.requires.fits c.in-Err.ensures.refusal
