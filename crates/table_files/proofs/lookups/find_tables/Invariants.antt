use Rattle.std.proofs.Common.{◌≡◌, ◌+◌, ◌≤◌, true, take, drop, All, option_copied}
use Rattle.esql_io.specs.Calls.{NoneFailed}
use Rattle.table_files.specs.Asked.{AskedForTable}
use Rattle.table_files.specs.Catalog.{AddsTable}
use Rattle.table_files.specs.Found.{has_table}
use Rattle.table_files.specs.Policies.{names_at}
use Rattle.table_files.specs.Reading.{IsFinding}
use Rattle.table_files.specs.Shapes.{entries_in}
use Rattle.table_files.proofs.Turns.{AsksTo, TurnsTo}
use Rattle.table_files.proofs.lookups.find_tables.Given as goal

abbrev pub invariant-loop-name : goal.invariant-loop-name
invariant-loop-name g l = record {
  told : TurnsTo (AddsTable (option_copied l.folder) (g.F.Files.holds l.initial.files) true l.beside) l.initial.findings (names_at l.span l.names) l.findings (names_at l.span (drop l.name-index l.names));
  asked : AsksTo (AddsTable (option_copied l.folder) (g.F.Files.holds l.initial.files) true l.beside) (AskedForTable (option_copied l.folder) (g.F.Files.holds l.initial.files)) l.initial.findings (names_at l.span l.names) l.findings (names_at l.span (drop l.name-index l.names));
  finding : IsFinding l.findings;
  room : entries_in l.findings + l.beside ≤ 100000;
  all : All (λ name. has_table l.findings.tables name ≡ true) (take l.name-index l.names);
  same : l.findings.policies ≡ l.initial.findings.policies;
  none_failed : NoneFailed g.F.Files.holds g.F.Files.faults g.F.Files.failed l.initial.files l.files;
}
