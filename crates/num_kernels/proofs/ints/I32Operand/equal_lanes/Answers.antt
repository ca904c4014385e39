use Rattle.std.proofs.Common.{w32}
use Rattle.num_kernels.proofs.Marked.{equal_marked}
use Rattle.num_kernels.proofs.ints.I32Operand.equal_lanes.Goals as goal

pub returns : goal.returns
returns g c = equal_marked w32 c.requires
