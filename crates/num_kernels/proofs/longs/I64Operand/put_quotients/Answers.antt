use Rattle.std.proofs.Common.{◌^◌, ◌<◌, arith, w64}
use Rattle.num_kernels.proofs.Puts.{quotients_ask, quotients_put}
use Rattle.num_kernels.proofs.longs.I64Operand.put_quotients.Goals as goal

pub nonzero_div-quotients : goal.nonzero_div-quotients
nonzero_div-quotients g c =
    let one : 1 < 2 ^ 63 = omega arith in
    quotients_ask w64 g.row.N c.args.start c.args.fine c.args.left.now c.args.right.now c.marks-marks.result c.requires.load c.marks-marks.ensures one c.args.to.now c.requires

pub returns : goal.returns
returns g c =
    let one : 1 < 2 ^ 63 = omega arith in
    quotients_put w64 g.row.N c.args.start c.args.fine c.args.left.now c.args.right.now c.marks-marks.result c.requires.load c.marks-marks.ensures one c.args.to.now c.requires
