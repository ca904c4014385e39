use Rattle.std.proofs.Common.{w64}
use Rattle.num_folds.proofs.Lanes.{marks_above}
use Rattle.num_folds.proofs.number.I64Laned.lanes_above.Goals as goal

pub returns : goal.returns
returns g c = marks_above w64 g.row.N c.args.start c.requires.0 c.args.values.now c.requires.1 c.fit.ensures c.args.bound c.ranges.bound
