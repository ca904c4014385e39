use Rattle.std.proofs.Common.{sym, ap, ◌∙◌, ◌∷◌}
use Rattle.ndjson_load.proofs.Members.{only_one, only_more}
use Rattle.ndjson_load.proofs.mapping.only_member.Goals as goal

pub returns-in-None : goal.returns-in-None
returns-in-None c =
    only_one c.args.members.now.entries _ (sym c.values-values.ensures.rest ∙ c.in_ok-first.ensures.steps ∙ ap (λ vs. c.in_ok-first.first.now ∷ vs) c.in-None.ensures.steps.0)

pub returns-in-Some : goal.returns-in-Some
returns-in-Some c =
    only_more c.args.members.now.entries _ _ _ (sym c.values-values.ensures.rest ∙ c.in_ok-first.ensures.steps ∙ ap (λ vs. c.in_ok-first.first.now ∷ vs) c.in-Some.ensures.steps)
