use Rattle.function_rules.proofs.Truths.{or_symmetric}
use Rattle.function_rules.proofs.logic.or_is_symmetric.Goals as goal

pub returns : goal.returns
returns c = or_symmetric
