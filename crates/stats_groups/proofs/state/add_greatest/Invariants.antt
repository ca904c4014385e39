use Rattle.std.proofs.Common.{◌≡◌, drop}
use Rattle.std.specs.Prelude.{fold}
use Rattle.std.specs.Ordering.{is_gt}
use Rattle.stats_groups.specs.States.{best_after}
use Rattle.stats_groups.proofs.state.add_greatest.Given as goal

abbrev pub invariant-loop-value : goal.invariant-loop-value
invariant-loop-value l = fold (best_after is_gt) l.initial.best l.values ≡ fold (best_after is_gt) l.best (drop l.value-index l.values)
