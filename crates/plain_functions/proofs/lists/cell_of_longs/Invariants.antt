use Rattle.std.proofs.Common.{◌≡◌, map, take}
use Rattle.esql_types.specs.declared.value.Value.TheVariants.{Long}
use Rattle.plain_functions.proofs.lists.cell_of_longs.Given as goal

abbrev pub invariant-loop-number : goal.invariant-loop-number
invariant-loop-number l = l.cell ≡ map Long (take l.number-index l.numbers)
