use Rattle.std.proofs.Common.{◌≡◌, ◌∷◌, take}
use Rattle.stats_groups.proofs.group_key.GroupKey.behind.Given as goal

abbrev pub invariant-loop-cell : goal.invariant-loop-cell
invariant-loop-cell l = l.cells.items ≡ l.fn.first ∷ take l.cell-index l.cell-items
