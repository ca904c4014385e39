use Rattle.function_rules.proofs.TextsParts.{substring_part}
use Rattle.function_rules.proofs.texts.substring_is_a_part.Goals as goal

pub returns : goal.returns
returns c = substring_part c.args.text.now c.utf8.text
