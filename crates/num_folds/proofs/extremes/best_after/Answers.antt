use Rattle.std.proofs.Common.{◌∙◌, map, option_map, not, eqb}
use Rattle.num_folds.specs.Totals.{AsGood}
use Rattle.num_folds.proofs.Best.{skip_lanes}
use Rattle.num_folds.proofs.Steps.{kept_bits}
use Rattle.num_folds.proofs.extremes.best_after.Goals as goal

pub returns-then-none_better : goal.returns-then-none_better
returns-then-none_better g c =
    let whole = g.T.Number.whole in
    let start = c.args.start in
    let valid = c.args.valid.now in
    let keep = c.args.keep.now in
    skip_lanes (AsGood (not (eqb g.row.SOUGHT 0))) (map whole c.args.values.now) valid keep start g.row.N (option_map whole c.args.so_far)
    (λ k below kept. c.none_better.ensures c.if-none_better.true k below (kept_bits valid keep start g.row.N c.bits.ensures c.bits-2.ensures k below ∙ kept))
    c.requires.5
