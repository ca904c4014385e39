use Rattle.function_rules.proofs.Truths.{and_symmetric}
use Rattle.function_rules.proofs.logic.and_is_symmetric.Goals as goal

pub returns : goal.returns
returns c = and_symmetric
