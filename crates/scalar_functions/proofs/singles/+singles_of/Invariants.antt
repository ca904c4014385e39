use Rattle.std.proofs.Common.{length}
use Rattle.scalar_functions.proofs.singles.+singles_of.Given as goal

abbrev pub decreases-singles_of : goal.decreases-singles_of
decreases-singles_of l = length l.cells.now
