use Rattle.std.proofs.Common.{◌≡◌, ◌++◌, length, sym, ap, ◌∙◌}
use Rattle.std.specs.Str.{chars}
use Rattle.std.proofs.Math.Utf8.{encode}
use Rattle.std.proofs.lemmas.Str.{chars-nil, chars_past_char}
use Rattle.plain_functions.proofs.Characters.{empty}
use Rattle.plain_functions.proofs.texts.behind_one.Goals as goal

pub returns-in-Some : goal.returns-in-Some
returns-in-Some c =
    let first = c.in-Some.field-0 in
    let behind = c.as_str.result.now in
    let split : c.args.text.now ≡ encode first ++ behind =
    sym c.chars-characters.ensures.rest ∙ c.in-Some.ensures.steps.0 ∙ ap (λ rest. encode first ++ rest) (sym c.as_str.ensures) in
    (first, chars_past_char c.args.text.now behind first c.utf8.text split)

pub returns-in-None : goal.returns-in-None
returns-in-None c = ap chars (empty c.args.text.now (ap length (sym c.chars-characters.ensures.rest) ∙ c.in-None.ensures.steps.0.0)) ∙ chars-nil
