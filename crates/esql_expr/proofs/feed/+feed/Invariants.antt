use Rattle.std.proofs.Common.{◌+◌, ◌*◌, length}
use Rattle.esql_expr.proofs.feed.+feed.Given as goal

abbrev pub decreases-close : goal.decreases-close
decreases-close l = 2 * length l.frames

abbrev pub decreases-feed : goal.decreases-feed
decreases-feed l = 2 * length l.frames + 1
