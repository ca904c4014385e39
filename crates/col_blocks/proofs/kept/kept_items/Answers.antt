use Rattle.std.proofs.Common.{◌≡◌, ℕ, ◌+◌, ◌-◌, ◌<◌, ◌≤◌, Bool, true, false, cond, List, [], ◌∷◌, ◌++◌, Some, None, map, length, get_or, take, drop, refl, sym, ap, ◌∙◌, subst, arith}
use Rattle.col_blocks.proofs.Keeps.{kept_read}
use Rattle.col_blocks.proofs.kept.kept_items.Goals as goal

pub loop-place-preserved : goal.loop-place-preserved
loop-place-preserved g c =
    kept_read c.args.keep.now c.args.items.now c.loop-place.new.items c.push_item_if.new.new.items c.loop-place.place c.index-items-place.result c.get.result (omega arith) c.loop-place-test.true c.loop-place.invariant c.get.ensures
    c.index-items-place.is c.in_ok-push_item_if.ensures
