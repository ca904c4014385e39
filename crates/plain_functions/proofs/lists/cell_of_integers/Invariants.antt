use Rattle.std.proofs.Common.{◌≡◌, map, take}
use Rattle.esql_types.specs.declared.value.Value.TheVariants.{Int}
use Rattle.plain_functions.proofs.lists.cell_of_integers.Given as goal

abbrev pub invariant-loop-number : goal.invariant-loop-number
invariant-loop-number l = l.cell ≡ map Int (take l.number-index l.numbers)
