use Rattle.std.proofs.Common.{◌≡◌, pos, ap, ◌∙◌, w64, rules}
use Rattle.std.proofs.lemmas.Int.{to_z-of_z}
use Rattle.function_rules.specs.Texts.{substring_from}
use Rattle.plain_functions.proofs.Characters.{so_many_from}
use Rattle.plain_functions.proofs.texts.substring.Goals as goal

pub returns-in-Ok : goal.returns-in-Ok
returns-in-Ok c =
    let counted : c.args.count ≡ pos c.in-Ok.number = search rules in
    let from : c.substring_from.result.now ≡ substring_from c.args.text.now c.args.start =
    c.substring_from.ensures ∙ ap (substring_from c.args.text.now) (to_z-of_z w64 c.args.start c.ranges.start) in
    so_many_from c.args.text.now c.substring_from.result.now c.first.result.now c.args.start c.args.count c.in-Ok.number counted c.substring_from.utf8 from c.first.ensures
