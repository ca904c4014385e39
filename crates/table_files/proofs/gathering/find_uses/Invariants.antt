use Rattle.std.proofs.Common.{drop, option_copied}
use Rattle.esql_io.specs.Calls.{NoneFailed}
use Rattle.table_files.specs.Asked.{AskedForUse}
use Rattle.table_files.specs.Catalog.{AddsUse}
use Rattle.table_files.specs.Found.{nothing}
use Rattle.table_files.specs.Reading.{IsFinding}
use Rattle.table_files.proofs.Turns.{AsksTo, TurnsTo}
use Rattle.table_files.proofs.gathering.find_uses.Given as goal

abbrev pub invariant-loop-used : goal.invariant-loop-used
invariant-loop-used g l = record {
  told : TurnsTo (AddsUse (option_copied l.folder) (g.F.Files.holds l.initial.files)) nothing l.uses l.findings (drop l.used-index l.uses);
  asked : AsksTo (AddsUse (option_copied l.folder) (g.F.Files.holds l.initial.files)) (AskedForUse (option_copied l.folder) (g.F.Files.holds l.initial.files)) nothing l.uses l.findings (drop l.used-index l.uses);
  finding : IsFinding l.findings;
  none_failed : NoneFailed g.F.Files.holds g.F.Files.faults g.F.Files.failed l.initial.files l.files;
}
