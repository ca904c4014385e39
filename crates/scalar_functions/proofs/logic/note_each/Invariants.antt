use Rattle.std.proofs.Common.{◌≡◌, ◌++◌, take}
use Rattle.std.specs.List.{flat_map}
use Rattle.esql_plan.specs.Rules.{multi_of}
use Rattle.esql_plan.specs.Values.{failures_at}
use Rattle.scalar_functions.proofs.logic.note_each.Given as goal

abbrev pub invariant-loop-cell : goal.invariant-loop-cell
invariant-loop-cell l = l.failures ≡ l.initial.failures ++ flat_map (λ cell. failures_at l.node (multi_of cell)) (take l.cell-index l.cells)
