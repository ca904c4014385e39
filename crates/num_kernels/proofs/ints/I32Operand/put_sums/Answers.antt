use Rattle.std.proofs.Common.{w32}
use Rattle.num_kernels.specs.Numbers.{add}
use Rattle.num_kernels.proofs.Numbers.{sum_value}
use Rattle.num_kernels.proofs.Puts.{chosen_put}
use Rattle.num_kernels.proofs.ints.I32Operand.put_sums.Goals as goal

pub returns : goal.returns
returns g c = chosen_put w32 g.row.N c.args.start c.args.fine c.args.left.now c.args.right.now c.marks.result c.requires.load c.marks.ensures add c.args.to.now c.requires _ (sum_value w32)
