use Rattle.std.proofs.Common.{◌∙◌}
use Rattle.number_rules.proofs.Spelling.{spelled_long-parse}
use Rattle.plain_functions.proofs.conversions.long_of_text.Goals as goal

pub returns : goal.returns
returns c = c.ok.ensures.value ∙ spelled_long-parse c.args.text.now _ c.parse.ensures.value.0
