use Rattle.std.proofs.Common.{◌≡◌, ◌+◌, ◌-◌, length, take, ap, ◌∙◌, arith, length-append}
use Rattle.std.specs.Str.{chars, encode_utf8_all}
use Rattle.plain_functions.proofs.Characters.{cut_front, front_and_behind, front_boundary}
use Rattle.plain_functions.proofs.texts.first.Goals as goal

pub overflow_sub-text : goal.overflow_sub-text
overflow_sub-text c =
    let behind = c.behind_first-behind.result.now in
    let whole = front_and_behind c.args.text.now behind c.args.count c.utf8.text c.behind_first-behind.utf8 c.behind_first-behind.ensures in
    let front = encode_utf8_all (take c.args.count (chars c.args.text.now)) in
    let long : length c.args.text.now ≡ length front + length behind = ap length whole ∙ length-append front behind in
    omega arith

pub split_at-requires : goal.split_at-requires
split_at-requires c =
    let behind = c.behind_first-behind.result.now in
    let whole = front_and_behind c.args.text.now behind c.args.count c.utf8.text c.behind_first-behind.utf8 c.behind_first-behind.ensures in
    let front = encode_utf8_all (take c.args.count (chars c.args.text.now)) in
    let long : length c.args.text.now ≡ length front + length behind = ap length whole ∙ length-append front behind in
    front_boundary c.args.text.now front behind _ whole c.behind_first-behind.utf8 (omega arith)

pub returns : goal.returns
returns c =
    let behind = c.behind_first-behind.result.now in
    let whole = front_and_behind c.args.text.now behind c.args.count c.utf8.text c.behind_first-behind.utf8 c.behind_first-behind.ensures in
    let front = encode_utf8_all (take c.args.count (chars c.args.text.now)) in
    let long : length c.args.text.now ≡ length front + length behind = ap length whole ∙ length-append front behind in
    c.split_at.ensures.front ∙ cut_front c.args.text.now front behind _ whole (omega arith)
