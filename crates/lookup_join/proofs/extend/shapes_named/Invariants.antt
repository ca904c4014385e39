use Rattle.std.proofs.Common.{◌≡◌, take}
use Rattle.lookup_join.specs.Extended.{shapes_named}
use Rattle.lookup_join.proofs.extend.shapes_named.Given as goal

abbrev pub invariant-loop-name : goal.invariant-loop-name
invariant-loop-name l = l.shapes ≡ shapes_named l.tables (take l.name-index l.names)
