use Rattle.function_rules.proofs.Truths.{or_associative}
use Rattle.function_rules.proofs.logic.or_is_associative.Goals as goal

pub returns : goal.returns
returns c = or_associative
