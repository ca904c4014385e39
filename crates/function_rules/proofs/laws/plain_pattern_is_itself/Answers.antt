use Rattle.function_rules.proofs.Plain.{plain_is_itself}
use Rattle.function_rules.proofs.laws.plain_pattern_is_itself.Goals as goal

pub returns : goal.returns
returns c = plain_is_itself
