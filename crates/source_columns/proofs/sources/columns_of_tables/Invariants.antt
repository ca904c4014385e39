use Rattle.std.proofs.Common.{◌≡◌, drop}
use Rattle.row_semantics.specs.Sources as source
use Rattle.source_columns.specs.Gathered.{columns_in, AreOrdered}
use Rattle.source_columns.specs.Taken.{AreTaken}
use Rattle.source_columns.proofs.sources.columns_of_tables.Given as goal

abbrev pub invariant-loop-name : goal.invariant-loop-name
invariant-loop-name l = record {
  left : source.with_tables l.tables (drop l.name-index l.names) (columns_in l.gathered.entries) ≡ source.columns_of_tables l.tables l.names;
  ordered : AreOrdered (columns_in l.gathered.entries);
  taken : AreTaken l.tables (columns_in l.gathered.entries) l.taken;
}
