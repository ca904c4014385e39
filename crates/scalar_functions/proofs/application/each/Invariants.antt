use Rattle.std.proofs.Common.{◌≡◌, ◌++◌, take}
use Rattle.std.specs.List.{flat_map}
use Rattle.esql_plan.specs.Values.{failures_at}
use Rattle.scalar_functions.specs.Calls.{conversion_rule}
use Rattle.scalar_functions.proofs.application.each.Given as goal

abbrev pub invariant-loop-value : goal.invariant-loop-value
invariant-loop-value l = record {
  cell : l.cell ≡ flat_map (λ value. (conversion_rule l.conversion value).cell) (take l.value-index l.values);
  failures : l.failures ≡ l.initial.failures ++ flat_map (λ value. failures_at l.node (conversion_rule l.conversion value).causes) (take l.value-index l.values);
}
