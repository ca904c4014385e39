use Rattle.std.proofs.Common.{w64}
use Rattle.num_kernels.proofs.Marked.{equal_marked}
use Rattle.num_kernels.proofs.longs.I64Operand.equal_lanes.Goals as goal

pub returns : goal.returns
returns g c = equal_marked w64 c.requires
