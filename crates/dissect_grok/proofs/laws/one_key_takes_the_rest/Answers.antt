use Rattle.dissect_grok.proofs.Taken.{rest_of_text}
use Rattle.dissect_grok.proofs.laws.one_key_takes_the_rest.Goals as goal

pub returns : goal.returns
returns c = rest_of_text
