use Rattle.std.proofs.Common.{◌≡◌, drop, fold}
use Rattle.row_semantics.specs.Sources.{with_column}
use Rattle.source_columns.specs.Gathered.{columns_in, AreOrdered}
use Rattle.source_columns.proofs.gathered.add_columns.Given as goal

abbrev pub invariant-loop-column : goal.invariant-loop-column
invariant-loop-column l = record {
  left : fold with_column (columns_in l.gathered.entries) (drop l.column-index l.columns) ≡ fold with_column (columns_in l.initial.gathered.entries) l.columns;
  ordered : AreOrdered (columns_in l.gathered.entries);
}
