use Rattle.function_rules.proofs.Truths.{not_and}
use Rattle.function_rules.proofs.logic.and_is_denied_by_or.Goals as goal

pub returns : goal.returns
returns c = not_and
