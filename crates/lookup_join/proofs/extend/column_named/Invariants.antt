use Rattle.std.proofs.Common.{◌≡◌, drop}
use Rattle.row_semantics.specs.Scopes.{column_named}
use Rattle.lookup_join.proofs.extend.column_named.Given as goal

abbrev pub invariant-loop-column : goal.invariant-loop-column
invariant-loop-column l = column_named (drop l.column-index l.columns) l.name ≡ column_named l.columns l.name
