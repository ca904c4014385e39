use Rattle.name_rules.proofs.KeptOnce.{kept_differ}
use Rattle.name_rules.proofs.laws.kept_differ.Goals as goal

pub returns : goal.returns
returns c = kept_differ
