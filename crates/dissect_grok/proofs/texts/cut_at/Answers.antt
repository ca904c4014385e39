use Rattle.dissect_grok.proofs.Cutting.{cut_found}
use Rattle.dissect_grok.proofs.texts.cut_at.Goals as goal

pub returns : goal.returns
returns c = cut_found c.args.delimiter.now c.args.text.now c.split_once.result c.split_once.ensures.cases
