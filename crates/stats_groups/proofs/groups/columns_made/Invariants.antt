use Rattle.std.proofs.Common.{◌≡◌, ◌++◌, map, take}
use Rattle.esql_plan.specs.declared.step.Aggregate.{Aggregate}
use Rattle.esql_plan.specs.declared.step.GroupColumn.{GroupColumn}
use Rattle.stats_groups.proofs.groups.columns_made.Given as goal

abbrev pub invariant-loop-group : goal.invariant-loop-group
invariant-loop-group l = l.made ≡ map (λ (aggregate : Aggregate). aggregate.to) l.aggregates ++ map (λ (group : GroupColumn). group.to) (take l.group-index l.groups)
