use Rattle.std.proofs.Common.{◌≡◌, [], ◌∷◌, drop}
use Rattle.esql_types.specs.Values.{value_cmp}
use Rattle.function_rules.specs.Lists.{greatest_from, greatest_of}
use Rattle.plain_functions.proofs.lists.greatest.Given as goal

abbrev pub invariant-loop-value : goal.invariant-loop-value
invariant-loop-value l = greatest_of value_cmp l.values ≡ greatest_from value_cmp l.best (drop l.value-index l.others) ∷ []
