use Rattle.std.proofs.Common.{◌≡◌, map, take}
use Rattle.esql_types.specs.declared.value.Value.TheVariants.{Int}
use Rattle.plain_functions.proofs.lists.integers_in.Given as goal

abbrev pub invariant-loop-value : goal.invariant-loop-value
invariant-loop-value l = map Int l.numbers.items ≡ take l.value-index l.values
