use Rattle.std.proofs.Common.{◌≡◌, take}
use Rattle.std.specs.List.{flat_map}
use Rattle.lookup_join.specs.Extended.{joins_in_command}
use Rattle.lookup_join.proofs.joins.joins_of.Given as goal

abbrev pub invariant-loop-command : goal.invariant-loop-command
invariant-loop-command l = l.joins ≡ flat_map joins_in_command (take l.command-index l.query.commands)
