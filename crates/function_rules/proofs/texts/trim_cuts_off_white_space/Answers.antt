use Rattle.std.proofs.Common.{subst}
use Rattle.std.specs.Str.{IsTrim}
use Rattle.function_rules.proofs.texts.trim_cuts_off_white_space.Goals as goal

pub returns : goal.returns
returns c = subst (IsTrim c.args.text.now) c.trim-result.ensures.trim c.trim-result.ensures.value
