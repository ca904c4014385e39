use Rattle.std.proofs.Common.{◌≡◌, ◌++◌, length, sym, ap, ◌∙◌}
use Rattle.std.specs.Str.{chars}
use Rattle.std.proofs.Math.Utf8.{encode}
use Rattle.std.proofs.lemmas.Str.{chars-nil}
use Rattle.plain_functions.proofs.Characters.{empty, last_character}
use Rattle.plain_functions.proofs.texts.before_one.Goals as goal

pub returns-in-Some : goal.returns-in-Some
returns-in-Some c =
    let last = c.in-Some.field-0 in
    let before = c.as_str.result.now in
    let split : c.args.text.now ≡ before ++ encode last =
    sym c.chars-characters.ensures.rest ∙ c.in-Some.ensures.steps ∙ ap (λ rest. rest ++ encode last) (sym c.as_str.ensures) in
    (last, last_character c.args.text.now before last c.utf8.text c.as_str.utf8 split)

pub returns-in-None : goal.returns-in-None
returns-in-None c = ap chars (empty c.args.text.now (ap (λ text. length text) (sym c.chars-characters.ensures.rest) ∙ c.in-None.ensures.steps.0)) ∙ chars-nil
