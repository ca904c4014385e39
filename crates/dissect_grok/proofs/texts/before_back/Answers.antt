use Rattle.dissect_grok.proofs.Cutting.{back_found}
use Rattle.dissect_grok.proofs.texts.before_back.Goals as goal

pub returns : goal.returns
returns c = back_found c.args.back.now c.args.text.now c.strip_suffix.result c.strip_suffix.ensures.cases
