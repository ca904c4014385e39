use Rattle.std.proofs.Common.{◌∷◌, sym, ◌∙◌}
use Rattle.function_rules.specs.Wildcards.{any_run}
use Rattle.text_match.proofs.Stoods.{stood_same}
use Rattle.text_match.proofs.wildcards.like.Goals as goal

pub returns-in-Run : goal.returns-in-Run
returns-in-Run c = c.end_is_like.ensures ∙ sym (stood_same _ _ (any_run ∷ _) _ c.in-Run.ensures)
