use Rattle.name_rules.proofs.KeptOnce.{kept_once}
use Rattle.name_rules.proofs.laws.kept_once.Goals as goal

pub returns : goal.returns
returns c = kept_once
