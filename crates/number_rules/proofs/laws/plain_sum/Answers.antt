use Rattle.number_rules.proofs.Totals.{plain_sum}
use Rattle.number_rules.proofs.laws.plain_sum.Goals as goal

pub returns : goal.returns
returns c = plain_sum
