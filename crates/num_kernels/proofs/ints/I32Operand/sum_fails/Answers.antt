use Rattle.std.proofs.Common.{w32}
use Rattle.num_kernels.proofs.Marked.{sums_marked}
use Rattle.num_kernels.proofs.ints.I32Operand.sum_fails.Goals as goal

pub returns : goal.returns
returns g c = sums_marked w32 c.requires
