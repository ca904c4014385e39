use Rattle.std.proofs.Common.{◌≡◌, ◌-◌, drop, length}
use Rattle.plan_semantics.specs.Groups.{keys_of_cells}
use Rattle.stats_groups.proofs.keys.keys_of_cells.Given as goal

abbrev pub invariant-loop-back : goal.invariant-loop-back
invariant-loop-back l = l.keys.items ≡ keys_of_cells (drop (length l.cells - l.back) l.cells)
