use Rattle.std.proofs.Common.{◌∙◌}
use Rattle.number_rules.proofs.Spelling.{spelled_integer-parse}
use Rattle.plain_functions.proofs.conversions.integer_of_text.Goals as goal

pub returns : goal.returns
returns c = c.ok.ensures.value ∙ spelled_integer-parse c.args.text.now _ c.parse.ensures.value.0
