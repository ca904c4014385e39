use Rattle.number_rules.proofs.Quotients.{least_by_minus_one}
use Rattle.number_rules.proofs.laws.least_by_minus_one.Goals as goal

pub returns : goal.returns
returns c = least_by_minus_one
