use Rattle.std.proofs.Common.{◌≡◌, take}
use Rattle.lookup_join.specs.Extended.{placed_rows}
use Rattle.lookup_join.proofs.extend.placed_rows.Given as goal

abbrev pub invariant-loop-name : goal.invariant-loop-name
invariant-loop-name l = l.placed ≡ placed_rows l.shapes l.tables (take l.name-index l.names)
