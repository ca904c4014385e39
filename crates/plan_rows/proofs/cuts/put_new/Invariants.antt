use Rattle.std.proofs.Common.{◌≡◌, drop}
use Rattle.std.specs.Vec.Iter.{into_iter_items}
use Rattle.plan_rows.specs.Kept.{kept_new}
use Rattle.plan_rows.proofs.cuts.put_new.Given as goal

abbrev pub invariant-loop-new : goal.invariant-loop-new
invariant-loop-new l = kept_new l.row (drop l.new-index l.to) (into_iter_items l.left) ≡ kept_new l.fn.row l.to l.fn.cells
