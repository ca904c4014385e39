use Rattle.std.proofs.Common.{sym, subst, ap, ◌≡◌, Ok, ◌∙◌}
use Rattle.esql_io.proofs.Calls.{none_yet}
use Rattle.esql_plan.specs.declared.catalog.Catalog.{Catalog}
use Rattle.plan_semantics.specs.Plans.{columns_of}
use Rattle.query_semantics.specs.Catalogs.{IsCatalog}
use Rattle.query_semantics.specs.Shapes.{shape_of}
use Rattle.esql_answer.specs.Prepared.{PreparedSeen}
use Rattle.table_files.specs.Asked.{AskedToLoad}
use Rattle.table_files.specs.Found.{found_of}
use Rattle.esql_run.specs.Rooms.{IsRoomOf}
use Rattle.esql_run.specs.Tables.{AskedByTables}
use Rattle.esql_run.proofs.Judged.{error_fits, broken_told, called_judged, made_judged}
use Rattle.esql_run.proofs.Stops.{called_after, asks_to_load, made_without}
use Rattle.esql_run.proofs.EachBuilt.{none_unbuilt}
use Rattle.esql_run.proofs.tables.answer_gathered.Goals as goal

pub prepare-requires-clause-catalog : goal.prepare-requires-clause-catalog
prepare-requires-clause-catalog g c = subst IsCatalog (sym c.in_ok-catalog.ensures) c.requires.catalog

pub prepare-requires-clause-built : goal.prepare-requires-clause-built
prepare-requires-clause-built g c = none_unbuilt c.args.query.now c.requires.built

pub answer_prepared-requires-clause-catalog : goal.answer_prepared-requires-clause-catalog
answer_prepared-requires-clause-catalog g c =
    ap (λ (prepared : PreparedSeen). prepared.catalog) c.in-Ok.ensures.written ∙ c.in_ok-catalog.ensures ∙ c.requires.gathered.catalog

pub answer_prepared-requires-clause-shape : goal.answer_prepared-requires-clause-shape
answer_prepared-requires-clause-shape g c =
    subst (λ (catalog : Catalog). shape_of c.args.text.now catalog c.args.query.now ≡ Ok (columns_of c.in-Ok.prepared.plan.output)) (c.in_ok-catalog.ensures ∙ c.requires.gathered.catalog) c.in-Ok.ensures.shape

pub returns-in-Ok-clause-called : goal.returns-in-Ok-clause-called
returns-in-Ok-clause-called g c =
    called_after (AskedToLoad c.args.options.now.folder (g.F.Files.holds c.args.files.now) (found_of c.args.gathered).tables)
    (AskedByTables c.args.options.now.folder (g.F.Files.holds c.args.files.now) c.args.text.now c.args.query.now) c.answer_prepared.result _ _ _ (none_yet _ _ _ _)
    (asks_to_load c.args.options.now.folder (g.F.Files.holds c.args.files.now) c.args.text.now c.args.query.now (found_of c.args.gathered) (columns_of c.in-Ok.prepared.plan.output) c.requires.gathered.gathers
    (subst (λ (catalog : Catalog). shape_of c.args.text.now catalog c.args.query.now ≡ Ok (columns_of c.in-Ok.prepared.plan.output)) (c.in_ok-catalog.ensures ∙ c.requires.gathered.catalog) c.in-Ok.ensures.shape))
    c.answer_prepared.ensures.called

pub returns-in-Ok-clause-made : goal.returns-in-Ok-clause-made
returns-in-Ok-clause-made g c =
    made_without g.M.Maker.refused (IsRoomOf g.M.Maker.refused g.M.Maker.last c.args.options.now.folder c.args.text.now (g.F.Files.holds c.args.files.now) c.args.query.now) c.answer_prepared.result _ _ c.in-Ok.ensures.quiet.counted
    c.answer_prepared.ensures.room

pub unprepared-requires : goal.unprepared-requires
unprepared-requires g c = error_fits c.args.text.now c.in_ok-catalog.catalog c.args.query.now c.in-Err.error c.requires.fits c.in-Err.ensures.refusal

pub returns-in-Err-clause-told : goal.returns-in-Err-clause-told
returns-in-Err-clause-told g c =
    broken_told c.args.text.now c.args.options.now.folder c.args.options.now.format (g.F.Files.holds c.args.files.now) c.args.query.now (found_of c.args.gathered) c.in_ok-catalog.catalog c.in-Err.error c.unprepared.result
    (c.in_ok-catalog.ensures ∙ c.requires.gathered.catalog) c.requires.gathered.gathers c.in-Err.ensures.refusal c.unprepared.ensures.unprepared

pub returns-in-Err-clause-called : goal.returns-in-Err-clause-called
returns-in-Err-clause-called g c =
    called_judged (AskedByTables c.args.options.now.folder (g.F.Files.holds c.args.files.now) c.args.text.now c.args.query.now) c.args.text.now c.in-Err.error c.unprepared.result _ _ (none_yet _ _ _ _) c.unprepared.ensures.unprepared

pub returns-in-Err-clause-made : goal.returns-in-Err-clause-made
returns-in-Err-clause-made g c =
    made_judged g.M.Maker.refused g.M.Maker.last c.args.options.now.folder c.args.text.now (g.F.Files.holds c.args.files.now) c.args.query.now (found_of c.args.gathered) c.in_ok-catalog.catalog c.in-Err.error c.unprepared.result _ _
    (c.in_ok-catalog.ensures ∙ c.requires.gathered.catalog) c.requires.built c.requires.somewhere c.in-Err.ensures.refusal c.in-Err.ensures.room c.in-Err.ensures.quiet c.unprepared.ensures.unprepared
