use Rattle.std.proofs.Common.{◌≡◌, map, take}
use Rattle.esql_types.specs.declared.value.Value.TheVariants.{Long}
use Rattle.plain_functions.proofs.lists.longs_in.Given as goal

abbrev pub invariant-loop-value : goal.invariant-loop-value
invariant-loop-value l = map Long l.numbers.items ≡ take l.value-index l.values
