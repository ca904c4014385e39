use Rattle.std.proofs.Common.{◌≡◌, take}
use Rattle.std.specs.List.{flat_map}
use Rattle.function_rules.specs.Lists.{first_of}
use Rattle.scalar_functions.proofs.single.values_of.Given as goal

abbrev pub invariant-loop-cell : goal.invariant-loop-cell
invariant-loop-cell l = l.values ≡ flat_map first_of (take l.cell-index l.cells)
