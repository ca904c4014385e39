use Rattle.std.proofs.Common.{w32}
use Rattle.num_kernels.proofs.Marked.{quotients_marked}
use Rattle.num_kernels.proofs.ints.I32Operand.quotient_fails.Goals as goal

pub returns : goal.returns
returns g c = quotients_marked w32 c.requires
