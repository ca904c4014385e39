use Rattle.esql_io.proofs.Calls.{none_yet}
use Rattle.table_files.specs.Asked.{AskedToFind}
use Rattle.table_files.specs.Found.{nothing, tables_of}
use Rattle.esql_run.specs.Tables.{AskedByTables}
use Rattle.esql_run.proofs.Catalogs.{is_catalog}
use Rattle.esql_run.proofs.Somewhere.{ContentLaws, found_somewhere, gathered_after, settled_after, asked_after, made_after}
use Rattle.esql_run.proofs.Stops.{gather_halted, called_stop, called_after, asks_to_find}
use Rattle.esql_run.proofs.tables.answer_tables.Goals as goal

pub answer_gathered-requires-clause-gathered : goal.answer_gathered-requires-clause-gathered
answer_gathered-requires-clause-gathered g c =
    gathered_after _ c.args.options.now.folder (g.F.Files.holds c.args.files.now) _ c.args.query.now c.in-Ok.gathered c.folder_of.ensures c.in-Ok.ensures.called.held c.in-Ok.ensures.told

pub answer_gathered-requires-clause-somewhere : goal.answer_gathered-requires-clause-somewhere
answer_gathered-requires-clause-somewhere g c =
    let laws : ContentLaws = record { uses_differ = c.uses_differ.ensures; some_gathering = c.some_gathering.ensures; some_loading = c.some_loading.ensures; some_halt = c.some_halt.ensures } in
    let is = gathered_after _ c.args.options.now.folder (g.F.Files.holds c.args.files.now) _ c.args.query.now c.in-Ok.gathered c.folder_of.ensures c.in-Ok.ensures.called.held c.in-Ok.ensures.told in
    found_somewhere laws c.args.options.now.folder _ c.args.query.now _ is.gathers

pub answer_gathered-requires-clause-catalog : goal.answer_gathered-requires-clause-catalog
answer_gathered-requires-clause-catalog g c =
    is_catalog c.in-Ok.gathered.catalog (tables_of c.in-Ok.gathered) c.in-Ok.gathered.catalog.policies c.in-Ok.ensures.told.catalog c.in-Ok.ensures.rise c.in-Ok.ensures.few c.in-Ok.ensures.apart c.in-Ok.ensures.policies

pub returns-in-Ok-clause-told : goal.returns-in-Ok-clause-told
returns-in-Ok-clause-told g c =
    let laws : ContentLaws = record { uses_differ = c.uses_differ.ensures; some_gathering = c.some_gathering.ensures; some_loading = c.some_loading.ensures; some_halt = c.some_halt.ensures } in
    settled_after laws c.args.text.now c.args.options.now.folder c.args.options.now.format (g.F.Files.holds c.args.files.now) _ c.args.query.now c.answer_gathered.result c.in-Ok.ensures.called.held c.answer_gathered.ensures.told

pub returns-in-Ok-clause-called : goal.returns-in-Ok-clause-called
returns-in-Ok-clause-called g c =
    called_after (AskedByTables c.args.options.now.folder _ c.args.text.now c.args.query.now) (AskedByTables c.args.options.now.folder (g.F.Files.holds c.args.files.now) c.args.text.now c.args.query.now) c.answer_gathered.result _ _ _
    c.in-Ok.ensures.called (asked_after c.args.options.now.folder c.args.text.now (g.F.Files.holds c.args.files.now) _ c.args.query.now c.in-Ok.ensures.called.held) c.answer_gathered.ensures.called

pub returns-in-Ok-clause-made : goal.returns-in-Ok-clause-made
returns-in-Ok-clause-made g c =
    made_after g.M.Maker.refused g.M.Maker.last c.args.options.now.folder c.args.text.now (g.F.Files.holds c.args.files.now) _ c.args.query.now c.answer_gathered.result _ _ c.in-Ok.ensures.called.held c.answer_gathered.ensures.made

pub returns-in-Err-clause-told : goal.returns-in-Err-clause-told
returns-in-Err-clause-told g c =
    let laws : ContentLaws = record { uses_differ = c.uses_differ.ensures; some_gathering = c.some_gathering.ensures; some_loading = c.some_loading.ensures; some_halt = c.some_halt.ensures } in
    gather_halted laws c.args.text.now _ c.args.options.now.folder c.args.options.now.format (g.F.Files.holds c.args.files.now) c.args.query.now c.in-Err.stop c.stopped.result c.folder_of.ensures c.in-Err.ensures.told c.stopped.ensures.stopped

pub returns-in-Err-clause-called : goal.returns-in-Err-clause-called
returns-in-Err-clause-called g c =
    called_stop (AskedToFind _ (g.F.Files.holds c.args.files.now) nothing _) (AskedByTables c.args.options.now.folder (g.F.Files.holds c.args.files.now) c.args.text.now c.args.query.now) c.in-Err.stop c.stopped.result _ _ _
    (none_yet _ _ _ _) (asks_to_find _ c.args.options.now.folder (g.F.Files.holds c.args.files.now) c.args.text.now c.args.query.now c.folder_of.ensures) c.stopped.ensures.stopped c.in-Err.ensures.called
