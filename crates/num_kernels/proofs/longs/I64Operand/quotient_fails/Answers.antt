use Rattle.std.proofs.Common.{w64}
use Rattle.num_kernels.proofs.Marked.{quotients_marked}
use Rattle.num_kernels.proofs.longs.I64Operand.quotient_fails.Goals as goal

pub returns : goal.returns
returns g c = quotients_marked w64 c.requires
