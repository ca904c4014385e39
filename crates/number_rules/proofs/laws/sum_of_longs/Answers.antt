use Rattle.number_rules.proofs.Totals.{sum_of_longs}
use Rattle.number_rules.proofs.laws.sum_of_longs.Goals as goal

pub returns : goal.returns
returns c = sum_of_longs
