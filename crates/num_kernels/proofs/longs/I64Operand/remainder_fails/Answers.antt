use Rattle.std.proofs.Common.{w64}
use Rattle.num_kernels.proofs.Marked.{remainders_marked}
use Rattle.num_kernels.proofs.longs.I64Operand.remainder_fails.Goals as goal

pub returns : goal.returns
returns g c = remainders_marked w64 c.requires
