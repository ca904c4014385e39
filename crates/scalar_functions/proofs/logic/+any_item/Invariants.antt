use Rattle.std.proofs.Common.{length}
use Rattle.scalar_functions.proofs.logic.+any_item.Given as goal

abbrev pub decreases-any_item : goal.decreases-any_item
decreases-any_item l = length l.items.now
