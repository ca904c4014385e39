use Rattle.std.proofs.Common.{◌∷◌, sym, ◌∙◌}
use Rattle.name_rules.specs.NameRules.{any_run}
use Rattle.name_rules.proofs.NameStood.{stood_same}
use Rattle.name_rules.proofs.like.like_name.Goals as goal

pub returns-in-Run : goal.returns-in-Run
returns-in-Run c = c.end_is_like.ensures ∙ sym (stood_same _ _ (any_run ∷ _) _ c.in-Run.ensures)
