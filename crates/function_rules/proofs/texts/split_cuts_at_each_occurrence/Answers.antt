use Rattle.function_rules.proofs.TextsPieces.{are_pieces}
use Rattle.function_rules.proofs.texts.split_cuts_at_each_occurrence.Goals as goal

pub returns : goal.returns
returns c = are_pieces
