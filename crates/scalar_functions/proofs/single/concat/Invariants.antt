use Rattle.std.proofs.Common.{◌≡◌, take}
use Rattle.std.specs.List.{flat_map}
use Rattle.function_rules.specs.Lists.{first_of}
use Rattle.esql_plan.specs.Rules.{text_of}
use Rattle.scalar_functions.proofs.single.concat.Given as goal

abbrev pub invariant-loop-cell : goal.invariant-loop-cell
invariant-loop-cell l = l.whole ≡ flat_map (λ cell. flat_map text_of (first_of cell)) (take l.cell-index l.cells)
