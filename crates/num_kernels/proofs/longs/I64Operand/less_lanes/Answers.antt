use Rattle.std.proofs.Common.{w64}
use Rattle.num_kernels.proofs.Marked.{less_marked}
use Rattle.num_kernels.proofs.longs.I64Operand.less_lanes.Goals as goal

pub returns : goal.returns
returns g c = less_marked w64 c.requires
