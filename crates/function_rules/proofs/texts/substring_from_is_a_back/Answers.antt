use Rattle.function_rules.proofs.TextsParts.{substring_back}
use Rattle.function_rules.proofs.texts.substring_from_is_a_back.Goals as goal

pub returns : goal.returns
returns c = substring_back c.args.text.now c.utf8.text
