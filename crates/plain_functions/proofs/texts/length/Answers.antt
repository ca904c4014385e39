use Rattle.std.proofs.Common.{◌≡◌, pos, min, count_by, ap, ◌∙◌, rules, w32}
use mir.Val.{SFits}
use Rattle.std.proofs.lemmas.Int.{to_z-of_z}
use Rattle.plain_functions.specs.Bytes.{begins_character}
use Rattle.plain_functions.proofs.Counts.{starts}
use Rattle.plain_functions.proofs.texts.length.Goals as goal

pub returns : goal.returns
returns c =
    let many = c.character_starts.ensures ∙ ap (count_by begins_character) c.as_bytes.ensures.value ∙ starts c.args.text.now c.utf8.text in
    let fits : SFits w32 c.as_integer.result = search rules in
    to_z-of_z w32 c.as_integer.result fits ∙ c.as_integer.ensures ∙ ap (λ n. pos (min n 2147483647)) many
