use Rattle.std.proofs.Common.{sym, subst, List, ℕ, Option}
use Rattle.esql_io.proofs.Calls.{none_yet}
use Rattle.plan_semantics.specs.Plans.{columns_of}
use Rattle.table_files.specs.Answers.{IsGathered}
use Rattle.table_files.specs.Asked.{AskedToLoad}
use Rattle.table_files.specs.Found.{tables_of}
use Rattle.esql_run.proofs.TableKinds.{are_tables}
use Rattle.esql_run.proofs.Stops.{load_halted, called_stop, no_room_stop, all_loaded, asked_in}
use Rattle.esql_run.proofs.tables.answer_prepared.Goals as goal

pub load-requires-clause-gathered : goal.load-requires-clause-gathered
load-requires-clause-gathered g c =
    (g.F.Files.holds c.args.files.now, subst (λ (f : Option (List ℕ)). IsGathered f (g.F.Files.holds c.args.files.now) c.args.query.now c.args.gathered) (sym c.folder_of.ensures) c.requires.gathered)

pub show-requires-clause-tables : goal.show-requires-clause-tables
show-requires-clause-tables g c =
    are_tables c.args.prepared.now.catalog (tables_of c.args.gathered) c.args.gathered.catalog.policies c.in-Ok.loaded.tables c.as_slice-tables.result.now c.requires.catalog c.as_slice-tables.ensures c.requires.loadable c.in-Ok.ensures.shaped

pub returns-in_ok-show-in-Ok-clause-told : goal.returns-in_ok-show-in-Ok-clause-told
returns-in_ok-show-in-Ok-clause-told g c =
    all_loaded c.args.text.now _ c.args.options.now.folder c.args.options.now.format (g.F.Files.holds c.args.files.now) c.args.query.now c.args.gathered c.in-Ok.loaded c.args.prepared.now.catalog
    (columns_of c.args.prepared.now.plan.output) c.as_slice-tables.result.now _ c.folder_of.ensures c.requires.gathered.gathers c.requires.shape c.in-Ok.ensures.told c.requires.catalog c.as_slice-tables.ensures c.in_ok-show-in-Ok.ensures.told

pub returns-in-Err-clause-told : goal.returns-in-Err-clause-told
returns-in-Err-clause-told g c =
    load_halted c.args.text.now _ c.args.options.now.folder c.args.options.now.format (g.F.Files.holds c.args.files.now) c.args.query.now c.args.gathered (columns_of c.args.prepared.now.plan.output) c.in-Err.stop c.stopped.result c.folder_of.ensures
    c.requires.gathered.gathers c.requires.shape c.in-Err.ensures.told c.stopped.ensures.stopped

pub returns-in-Err-clause-called : goal.returns-in-Err-clause-called
returns-in-Err-clause-called g c =
    called_stop (AskedToLoad _ (g.F.Files.holds c.args.files.now) (tables_of c.args.gathered))
    (AskedToLoad c.args.options.now.folder (g.F.Files.holds c.args.files.now) (tables_of c.args.gathered)) c.in-Err.stop c.stopped.result _ _ _ (none_yet _ _ _ _)
    (asked_in _ c.args.options.now.folder (g.F.Files.holds c.args.files.now) (tables_of c.args.gathered) c.folder_of.ensures) c.stopped.ensures.stopped c.in-Err.ensures.called

pub returns-in-Err-clause-room : goal.returns-in-Err-clause-room
returns-in-Err-clause-room g c = no_room_stop c.in-Err.stop c.stopped.result c.stopped.ensures.stopped
