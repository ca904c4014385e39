use Rattle.std.proofs.Common.{◌≡◌, ◌++◌}
use Rattle.std.specs.List.{flat_map}
use Rattle.std.specs.Vec.Iter.{into_iter_items}
use Rattle.plan_rows.specs.Kept.{kept_expanded}
use Rattle.plan_rows.proofs.steps.expand_rows.Given as goal

abbrev pub invariant-loop-row : goal.invariant-loop-row
invariant-loop-row l = l.new ++ flat_map (kept_expanded l.id l.to) (into_iter_items l.row-iterator) ≡ flat_map (kept_expanded l.id l.to) l.fn.rows
