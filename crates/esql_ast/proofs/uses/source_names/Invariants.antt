use Rattle.std.proofs.Common.{◌≡◌, take}
use Rattle.std.specs.Prelude.{fold}
use Rattle.esql_ast.specs.Uses.{with_command, uses_in_source}
use Rattle.esql_ast.proofs.uses.source_names.Given as goal

abbrev pub invariant-loop-command : goal.invariant-loop-command
invariant-loop-command l = l.uses ≡ fold with_command (uses_in_source l.fn.query.source) (take l.command-index l.command-items)
