use Rattle.std.proofs.Common.{◌≡◌, take}
use Rattle.stats_groups.specs.Entries.{cells_of}
use Rattle.stats_groups.proofs.row_key.cells_of_key.Given as goal

abbrev pub invariant-loop-group : goal.invariant-loop-group
invariant-loop-group l = l.cells.items ≡ cells_of (take l.group-index l.key.groups.now) l.key.row.now
