use Rattle.std.proofs.Common.{subst}
use Rattle.std.specs.Str.{IsTrimStart}
use Rattle.function_rules.proofs.texts.trim_start_cuts_off_white_space.Goals as goal

pub returns : goal.returns
returns c = subst (IsTrimStart c.args.text.now) c.trim_start-result.ensures.trim c.trim_start-result.ensures.value
