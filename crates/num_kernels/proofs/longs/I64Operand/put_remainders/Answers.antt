use Rattle.std.proofs.Common.{◌^◌, ◌<◌, arith, w64}
use Rattle.num_kernels.proofs.Puts.{remainders_ask, remainders_put}
use Rattle.num_kernels.proofs.longs.I64Operand.put_remainders.Goals as goal

pub nonzero_rem-remainders : goal.nonzero_rem-remainders
nonzero_rem-remainders g c =
    let one : 1 < 2 ^ 63 = omega arith in
    remainders_ask w64 g.row.N c.args.start c.args.fine c.args.left.now c.args.right.now c.marks-marks.result c.requires.load c.marks-marks.ensures one c.args.to.now c.requires

pub returns : goal.returns
returns g c =
    let one : 1 < 2 ^ 63 = omega arith in
    remainders_put w64 g.row.N c.args.start c.args.fine c.args.left.now c.args.right.now c.marks-marks.result c.requires.load c.marks-marks.ensures one c.args.to.now c.requires
