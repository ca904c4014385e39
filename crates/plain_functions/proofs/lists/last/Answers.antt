use Rattle.std.proofs.Common.{ap, ◌∙◌}
use Rattle.std.specs.Option.{option_to_list}
use Rattle.plain_functions.proofs.ValueLists.{last_at}
use Rattle.plain_functions.proofs.lists.last.Goals as goal

pub returns : goal.returns
returns c = ap option_to_list c.last.ensures.value ∙ last_at c.args.values.now
