use Rattle.esql_phrases.proofs.DepthOfTree.{phrase_depth}
use Rattle.esql_phrases.proofs.laws.depth_of_phrase.Goals as goal

pub returns : goal.returns
returns c line lexemes part phrase = phrase_depth phrase
