use Rattle.col_blocks.proofs.Lawful.{sliced_twice}
use Rattle.col_blocks.proofs.laws.slices_of_slices.Goals as goal

pub returns : goal.returns
returns c cells start len from count within = sliced_twice cells start len from count within
