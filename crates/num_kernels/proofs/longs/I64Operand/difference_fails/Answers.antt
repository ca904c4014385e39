use Rattle.std.proofs.Common.{w64}
use Rattle.num_kernels.proofs.Marked.{differences_marked}
use Rattle.num_kernels.proofs.longs.I64Operand.difference_fails.Goals as goal

pub returns : goal.returns
returns g c = differences_marked w64 c.requires
