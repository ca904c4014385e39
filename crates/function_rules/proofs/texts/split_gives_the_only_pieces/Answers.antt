use Rattle.function_rules.proofs.TextsPieces.{only_pieces}
use Rattle.function_rules.proofs.texts.split_gives_the_only_pieces.Goals as goal

pub returns : goal.returns
returns c = only_pieces
