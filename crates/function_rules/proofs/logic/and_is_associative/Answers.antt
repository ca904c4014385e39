use Rattle.function_rules.proofs.Truths.{and_associative}
use Rattle.function_rules.proofs.logic.and_is_associative.Goals as goal

pub returns : goal.returns
returns c = and_associative
