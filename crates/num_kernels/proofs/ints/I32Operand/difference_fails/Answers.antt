use Rattle.std.proofs.Common.{w32}
use Rattle.num_kernels.proofs.Marked.{differences_marked}
use Rattle.num_kernels.proofs.ints.I32Operand.difference_fails.Goals as goal

pub returns : goal.returns
returns g c = differences_marked w32 c.requires
