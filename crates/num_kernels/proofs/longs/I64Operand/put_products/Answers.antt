use Rattle.std.proofs.Common.{w64}
use Rattle.num_kernels.specs.Numbers.{mul}
use Rattle.num_kernels.proofs.Numbers.{product_value}
use Rattle.num_kernels.proofs.Puts.{chosen_put}
use Rattle.num_kernels.proofs.longs.I64Operand.put_products.Goals as goal

pub returns : goal.returns
returns g c = chosen_put w64 g.row.N c.args.start c.args.fine c.args.left.now c.args.right.now c.marks.result c.requires.load c.marks.ensures mul c.args.to.now c.requires _ (product_value w64)
