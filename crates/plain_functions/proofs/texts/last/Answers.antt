use Rattle.std.proofs.Common.{◌≡◌, ◌-◌, length, ◌∙◌}
use Rattle.std.specs.Str.{chars}
use Rattle.plain_functions.proofs.Characters.{back_boundary, before_and_back, cut_back}
use Rattle.plain_functions.proofs.texts.last.Goals as goal

pub split_at-requires : goal.split_at-requires
split_at-requires c =
    let before = c.before_last-before.result.now in
    let many = length (chars c.args.text.now) - c.args.count in
    let whole = before_and_back c.args.text.now before many c.utf8.text c.before_last-before.utf8 c.before_last-before.ensures in
    back_boundary c.args.text.now before _ whole c.utf8.text c.before_last-before.utf8

pub returns : goal.returns
returns c =
    let before = c.before_last-before.result.now in
    let many = length (chars c.args.text.now) - c.args.count in
    let whole = before_and_back c.args.text.now before many c.utf8.text c.before_last-before.utf8 c.before_last-before.ensures in
    c.split_at.ensures.back ∙ cut_back c.args.text.now before _ whole
