use Rattle.function_rules.proofs.TextsParts.{right_back}
use Rattle.function_rules.proofs.texts.right_is_a_back.Goals as goal

pub returns : goal.returns
returns c = right_back c.args.text.now c.utf8.text
