use Rattle.function_rules.proofs.TextsParts.{left_front}
use Rattle.function_rules.proofs.texts.left_is_a_front.Goals as goal

pub returns : goal.returns
returns c = left_front c.args.text.now c.utf8.text
