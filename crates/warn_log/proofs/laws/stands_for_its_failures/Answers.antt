use Rattle.warn_log.proofs.Kept.{logged-LogStands}
use Rattle.warn_log.proofs.laws.stands_for_its_failures.Goals as goal

pub returns : goal.returns
returns c = logged-LogStands
