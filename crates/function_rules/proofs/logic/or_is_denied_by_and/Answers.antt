use Rattle.function_rules.proofs.Truths.{not_or}
use Rattle.function_rules.proofs.logic.or_is_denied_by_and.Goals as goal

pub returns : goal.returns
returns c = not_or
