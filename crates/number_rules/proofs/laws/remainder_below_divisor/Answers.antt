use Rattle.number_rules.proofs.Quotients.{remainder_below}
use Rattle.number_rules.proofs.laws.remainder_below_divisor.Goals as goal

pub returns : goal.returns
returns c = remainder_below
