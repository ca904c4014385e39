use Rattle.std.proofs.Common.{◌≡◌, ◌+◌, ◌++◌, drop}
use Rattle.query_semantics.specs.WrittenAppended.{new_columns}
use Rattle.esql_analyze.proofs.appended.new_columns.Given as goal

abbrev pub invariant-loop-column : goal.invariant-loop-column
invariant-loop-column l = record {
  made : l.made ++ new_columns l.number (drop l.column-index l.columns) ≡ new_columns l.next l.columns;
  number : l.number ≡ l.next + l.column-index;
}
