use Rattle.std.proofs.Common.{map, option_map, arith, not, eqb}
use Rattle.num_folds.proofs.Best.{take_place}
use Rattle.num_folds.proofs.Lanes.{read_at}
use Rattle.num_folds.proofs.extremes.best_in.Goals as goal

pub loop-place-preserved : goal.loop-place-preserved
loop-place-preserved g c =
    let whole = g.T.Number.whole in
    let place = c.loop-place.place in
    take_place (map whole c.args.values.now) c.args.valid.now c.args.keep.now place (not (eqb g.row.SOUGHT 0)) (option_map whole c.loop-place.best)
    c.is_kept.ensures
    (read_at whole c.args.values.now place c.index-values-place.result (omega arith) c.index-values-place.is)
    c.best_of-best.ensures
    c.loop-place.invariant
