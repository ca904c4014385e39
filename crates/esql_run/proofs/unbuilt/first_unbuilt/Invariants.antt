use Rattle.std.proofs.Common.{◌≡◌, drop}
use Rattle.esql_run.specs.Built.{unbuilt_in}
use Rattle.esql_run.proofs.unbuilt.first_unbuilt.Given as goal

abbrev pub invariant-loop-command : goal.invariant-loop-command
invariant-loop-command l = unbuilt_in l.query.commands ≡ unbuilt_in (drop l.command-index l.query.commands)
