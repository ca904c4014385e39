use Rattle.written_laws.proofs.Limits.{limits_keep}
use Rattle.written_laws.proofs.laws.limits_keep_failures.Goals as goal

pub returns : goal.returns
returns c = limits_keep
