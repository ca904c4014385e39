use Rattle.std.proofs.Common.{drop, map, option_copied, take}
use Rattle.std.specs.List.{AllZip}
use Rattle.esql_io.specs.Calls.{NoneFailed}
use Rattle.table_files.specs.Found.{table_in}
use Rattle.table_files.specs.Tables.{IsTableOf}
use Rattle.table_files.proofs.RowsRead.{AsksRows, LoadedSoFar}
use Rattle.table_files.proofs.loading.load_tables.Given as goal

abbrev pub invariant-loop-source : goal.invariant-loop-source
invariant-loop-source g l = record {
  told : LoadedSoFar (option_copied l.folder) (g.F.Files.holds l.initial.files) (map table_in l.sources) (map table_in (drop l.source-index l.sources)) l.tables;
  asked : AsksRows (option_copied l.folder) (g.F.Files.holds l.initial.files) (map table_in l.sources) (map table_in (drop l.source-index l.sources));
  shaped : AllZip IsTableOf (map table_in (take l.source-index l.sources)) l.tables;
  none_failed : NoneFailed g.F.Files.holds g.F.Files.faults g.F.Files.failed l.initial.files l.files;
}
