use Rattle.number_rules.proofs.Quotients.{quotient_and_remainder}
use Rattle.number_rules.proofs.laws.quotient_and_remainder.Goals as goal

pub returns : goal.returns
returns c = quotient_and_remainder
