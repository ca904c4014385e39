use Rattle.std.proofs.Common.{◌++◌, sym, ap, ◌∙◌}
use Rattle.std.proofs.lemmas.Str.{chars_past_char}
use Rattle.std.specs.Prelude.{encode_utf8}
use Rattle.name_rules.proofs.like.cut_char.Goals as goal

pub returns : goal.returns
returns c =
    let first = c.in_ok-first.first in
    chars_past_char _ c.as_str.result.now first c.utf8.text
    (sym c.chars-characters.ensures.rest ∙ c.in_ok-first.ensures.steps.0 ∙ ap (λ rest. encode_utf8 first ++ rest) (sym c.as_str.ensures))
