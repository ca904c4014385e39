use Rattle.std.proofs.Common.{◌++◌, ◌+◌, ap, sym, ◌∙◌, append-nil}
use Rattle.std.specs.String.{string_bytes}
use Rattle.answer_text.specs.Txt.{printed}
use Rattle.table_out.proofs.LineParts.{no_more_printed, one_more_printed}
use Rattle.table_out.proofs.lines.push_items.Goals as goal

pub loop-place-preserved : goal.loop-place-preserved
loop-place-preserved g c =
    let place = c.loop-place.place in
    one_more_printed (λ item. printed (g.T.Print.text item)) c.args.widths.now c.args.items.now c.requires place c.index-items-place.result c.in_ok-text.text.now
    (string_bytes c.loop-place.out) (string_bytes c.push_text.new.out) _ c.loop-place-test.true c.index-items-place.is c.in_ok-text.ensures c.in_ok-push_text.ensures c.loop-place.invariant

pub returns : goal.returns
returns g c =
    sym (append-nil _)
    ∙ ap (λ line. string_bytes c.loop-place.out ++ line) (sym (no_more_printed (λ item. printed (g.T.Print.text item)) c.args.widths.now c.args.items.now c.requires c.loop-place.place c.loop-place-test.false))
    ∙ c.loop-place.invariant
