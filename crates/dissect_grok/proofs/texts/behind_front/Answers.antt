use Rattle.dissect_grok.proofs.Cutting.{front_found}
use Rattle.dissect_grok.proofs.texts.behind_front.Goals as goal

pub returns : goal.returns
returns c = front_found c.args.front.now c.args.text.now c.strip_prefix.result c.strip_prefix.ensures.cases
