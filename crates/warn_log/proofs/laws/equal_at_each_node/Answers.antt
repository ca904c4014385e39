use Rattle.warn_log.proofs.Kept.{logged-same}
use Rattle.warn_log.proofs.laws.equal_at_each_node.Goals as goal

pub returns : goal.returns
returns c = logged-same
