use Rattle.std.proofs.Common.{w32}
use Rattle.num_kernels.proofs.Marked.{less_marked}
use Rattle.num_kernels.proofs.ints.I32Operand.less_lanes.Goals as goal

pub returns : goal.returns
returns g c = less_marked w32 c.requires
