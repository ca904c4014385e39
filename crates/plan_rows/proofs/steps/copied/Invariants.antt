use Rattle.std.proofs.Common.{◌≡◌, take}
use Rattle.plan_rows.proofs.steps.copied.Given as goal

abbrev pub invariant-loop-cell : goal.invariant-loop-cell
invariant-loop-cell l = l.copy.items ≡ take l.cell-index l.cell-items
