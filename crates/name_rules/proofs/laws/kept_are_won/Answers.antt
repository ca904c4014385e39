use Rattle.name_rules.proofs.KeptOnce.{kept_are_won}
use Rattle.name_rules.proofs.laws.kept_are_won.Goals as goal

pub returns : goal.returns
returns c = kept_are_won
