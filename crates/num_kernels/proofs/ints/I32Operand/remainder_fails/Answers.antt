use Rattle.std.proofs.Common.{w32}
use Rattle.num_kernels.proofs.Marked.{remainders_marked}
use Rattle.num_kernels.proofs.ints.I32Operand.remainder_fails.Goals as goal

pub returns : goal.returns
returns g c = remainders_marked w32 c.requires
