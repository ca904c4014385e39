use Rattle.std.proofs.Common.{◌≡◌, drop}
use Rattle.row_semantics.specs.Sources.{tables_named}
use Rattle.source_columns.specs.Numbers.{Holds}
use Rattle.source_columns.proofs.Walks.{numbers_from}
use Rattle.source_columns.proofs.sources.tables_named.Given as goal

abbrev pub invariant-loop-name : goal.invariant-loop-name
invariant-loop-name l = record {
  left : numbers_from l.catalog.tables l.numbers (drop l.name-index l.names) ≡ tables_named l.catalog.tables l.names;
  seen : Holds l.seen l.numbers;
}
