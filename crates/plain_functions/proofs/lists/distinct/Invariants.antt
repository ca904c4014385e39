use Rattle.std.proofs.Common.{◌≡◌, take}
use Rattle.std.specs.BTreeSet.{contains}
use Rattle.std.specs.List.{list_any}
use Rattle.esql_types.specs.Values.{value_cmp}
use Rattle.esql_types.specs.declared.value.Value.{Value}
use Rattle.function_rules.specs.Lists.{distinct_of}
use Rattle.plain_functions.specs.Values.{value_same}
use Rattle.plain_functions.proofs.lists.distinct.Given as goal

abbrev pub invariant-loop-value : goal.invariant-loop-value
invariant-loop-value l = record {
  kept : l.cell ≡ distinct_of value_same (take l.value-index l.values);
  known : (sought : Value) → contains value_cmp l.seen sought ≡ list_any (λ earlier. value_same sought earlier) (take l.value-index l.values);
}
