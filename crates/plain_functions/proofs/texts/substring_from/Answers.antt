use Rattle.std.proofs.Common.{◌≡◌, pos, rules}
use Rattle.plain_functions.proofs.Characters.{from_place}
use Rattle.plain_functions.proofs.texts.substring_from.Goals as goal

pub returns-in-Ok : goal.returns-in-Ok
returns-in-Ok c =
    let placed : c.args.start ≡ pos c.in-Ok.place = search rules in
    from_place c.args.text.now c.behind_first.result.now c.args.start c.in-Ok.place c.saturating_sub.result placed c.saturating_sub.ensures c.behind_first.utf8 c.behind_first.ensures
