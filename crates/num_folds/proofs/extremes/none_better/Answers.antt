use Rattle.std.proofs.Common.{ap, map, option_map, not, eqb}
use Rattle.num_folds.proofs.Best.{no_better_lane}
use Rattle.num_folds.proofs.extremes.none_better.Goals as goal

pub returns-in-Some : goal.returns-in-Some
returns-in-Some g c =
    let whole = g.T.Number.whole in
    no_better_lane (not (eqb g.row.SOUGHT 0)) (map whole c.args.values.now) c.args.start g.row.N c.args.bits c.better_lanes.result (ap (option_map whole) c.in-Some.is) c.better_lanes.ensures
