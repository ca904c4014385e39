use Rattle.std.proofs.Common.{◌≡◌, ◌++◌, take}
use Rattle.plan_rows.proofs.cuts.with_values.Given as goal

abbrev pub invariant-loop-value : goal.invariant-loop-value
invariant-loop-value l = l.cell ≡ l.initial.cell ++ take l.value-index l.value-items
