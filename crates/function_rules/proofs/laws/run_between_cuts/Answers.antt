use Rattle.function_rules.proofs.Cuts.{run_between}
use Rattle.function_rules.proofs.laws.run_between_cuts.Goals as goal

pub returns : goal.returns
returns c = run_between
