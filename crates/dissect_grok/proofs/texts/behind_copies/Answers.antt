use Rattle.dissect_grok.proofs.Cutting.{copies_passed}
use Rattle.dissect_grok.proofs.texts.behind_copies.Goals as goal

pub returns : goal.returns
returns c = copies_passed c.args.delimiter.now c.args.text.now c.trim_start_matches.result.now c.requires c.trim_start_matches.ensures.matches
