use Rattle.std.proofs.Common.{◌∙◌}
use Rattle.std.specs.BTreeMap.{get_by_text}
use Rattle.name_rules.proofs.RenameSteps.{there_by}
use Rattle.name_rules.proofs.renames.is_there.Goals as goal

pub returns : goal.returns
returns c =
    c.contains_key.ensures ∙ there_by c.args.renames.now.names c.args.renames.now.firsts (get_by_text c.args.renames.now.places) c.args.name.now c.requires.inverse c.requires.own
