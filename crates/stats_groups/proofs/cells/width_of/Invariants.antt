use Rattle.std.proofs.Common.{◌<◌, All, take}
use Rattle.esql_types.specs.declared.names.ColId.{ColId}
use Rattle.stats_groups.proofs.cells.width_of.Given as goal

abbrev pub invariant-loop-to : goal.invariant-loop-to
invariant-loop-to l = All (λ (to : ColId). to.0 < l.width) (take l.to-index l.columns)
