use Rattle.std.proofs.Common.{w64}
use Rattle.num_kernels.proofs.Marked.{sums_marked}
use Rattle.num_kernels.proofs.longs.I64Operand.sum_fails.Goals as goal

pub returns : goal.returns
returns g c = sums_marked w64 c.requires
