use Rattle.std.proofs.Common.{◌≡◌, [], false, take}
use Rattle.std.specs.Prelude.{fold}
use Rattle.esql_ast.specs.Uses.{with_use}
use Rattle.esql_ast.proofs.uses.uses_in_source.Given as goal

abbrev pub invariant-loop-table : goal.invariant-loop-table
invariant-loop-table l = l.uses ≡ fold (with_use false) [] (take l.table-index l.table-items)
