use Rattle.function_rules.proofs.Plain.{run_is_any}
use Rattle.function_rules.proofs.laws.run_alone_is_any.Goals as goal

pub returns : goal.returns
returns c = run_is_any
