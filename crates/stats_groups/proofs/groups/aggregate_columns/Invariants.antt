use Rattle.std.proofs.Common.{◌≡◌, map, take}
use Rattle.esql_plan.specs.declared.step.Aggregate.{Aggregate}
use Rattle.stats_groups.proofs.groups.aggregate_columns.Given as goal

abbrev pub invariant-loop-aggregate : goal.invariant-loop-aggregate
invariant-loop-aggregate l = l.made ≡ map (λ (aggregate : Aggregate). aggregate.to) (take l.aggregate-index l.aggregates)
