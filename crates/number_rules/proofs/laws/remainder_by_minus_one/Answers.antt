use Rattle.number_rules.proofs.Quotients.{remainder_by_minus_one}
use Rattle.number_rules.proofs.laws.remainder_by_minus_one.Goals as goal

pub returns : goal.returns
returns c = remainder_by_minus_one
