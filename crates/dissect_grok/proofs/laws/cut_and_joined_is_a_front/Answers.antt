use Rattle.dissect_grok.proofs.Taken.{front_of_text}
use Rattle.dissect_grok.proofs.laws.cut_and_joined_is_a_front.Goals as goal

pub returns : goal.returns
returns c = front_of_text
