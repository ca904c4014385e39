use Rattle.std.proofs.Common.{◌≡◌, ◌++◌, ◌∷◌, [], ◌∙◌, ap, length}
use Rattle.std.specs.Vec.Iter.{into_iter_items, into_iter_len}
use Rattle.plan_semantics.specs.Taken.{joined_cells}
use Rattle.plan_rows.proofs.JoinedTurns.{counted_turn, none_left, joined_turn}
use Rattle.plan_rows.proofs.cuts.joined.Goals as goal

pub loop-cell-preserved : goal.loop-cell-preserved
loop-cell-preserved c =
    let left = into_iter_items c.loop-cell.left in
    let behind = into_iter_items c.next-in-loop-cell.new.self in
    let next = c.next-in-loop-cell in
    let counted = counted_turn next.result left behind (into_iter_len c.loop-cell.left) (into_iter_len next.new.self) next.ensures.cases next.ensures.items c.loop-cell.invariant.counted in
    record {
      counted = counted;
      both = joined_turn c.loop-cell.both c.push.new.self c.in-Some.cell (into_iter_items c.next.new.self) (into_iter_items c.loop-cell.cell-iterator) next.result left behind
          (joined_cells c.args.cells c.args.others) c.loop-cell.invariant.both c.in-Some.ensures.steps.0 next.ensures.items
          (none_left next.result left behind (into_iter_len c.loop-cell.left) (into_iter_len next.new.self) next.ensures.cases counted)
          (c.in_ok-push.ensures.ok ∙ ap (λ one. c.loop-cell.both ++ one ∷ []) c.in_ok-with_values.ensures);
    }
