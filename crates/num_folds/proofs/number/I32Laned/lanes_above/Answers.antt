use Rattle.std.proofs.Common.{w32}
use Rattle.num_folds.proofs.Lanes.{marks_above}
use Rattle.num_folds.proofs.number.I32Laned.lanes_above.Goals as goal

pub returns : goal.returns
returns g c = marks_above w32 g.row.N c.args.start c.requires.0 c.args.values.now c.requires.1 c.fit.ensures c.args.bound c.ranges.bound
