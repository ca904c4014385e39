use Rattle.std.proofs.Common.{map, option_map, not, eqb}
use Rattle.num_folds.specs.Totals.{AsGood, IsBest}
use Rattle.num_folds.proofs.extremes.best_in.Given as goal

abbrev pub invariant-loop-place : goal.invariant-loop-place
invariant-loop-place g l = IsBest (AsGood (not (eqb g.row.SOUGHT 0))) (map g.T.Number.whole l.values) l.valid l.keep l.place (option_map g.T.Number.whole l.best)
