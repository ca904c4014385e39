use Rattle.number_rules.proofs.Quotients.{remainder_not_below_zero, remainder_not_above_zero}
use Rattle.number_rules.proofs.laws.remainder_of_the_sign.Goals as goal

pub returns : goal.returns
returns c = record { positive = remainder_not_below_zero; negative = remainder_not_above_zero }
