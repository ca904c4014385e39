use Rattle.function_rules.proofs.TextsPieces.{joined_pieces}
use Rattle.function_rules.proofs.texts.split_joined_is_the_text.Goals as goal

pub returns : goal.returns
returns c = joined_pieces
