use Rattle.std.proofs.Common.{◌≡◌, ◌++◌, sym, ap, ◌∙◌}
use Rattle.std.specs.List.{flat_map}
use Rattle.std.specs.Str.{chars}
use Rattle.std.specs.String.{string_bytes}
use Rattle.std.proofs.lemmas.Iterator.{YieldsList-from_chars}
use Rattle.std.proofs.lemmas.Iterator.Consumers.{YieldsList-end}
use Rattle.std.proofs.lemmas.List.{map-id}
use Rattle.answer_text.specs.Txt.{printed_character}
use Rattle.answer_text.proofs.printing.push_printed.Goals as goal

pub returns : goal.returns
returns c =
    let loop = c.loop-character in
    let all = YieldsList-end (YieldsList-from_chars c.args.text.now c.utf8.text cc) loop.yielded _ loop.yielded_by _ _ c.in-None.is c.next.ensures.steps in
    let same : loop.yielded ≡ chars c.args.text.now = sym (map-id loop.yielded) ∙ all.0 in
    loop.invariant ∙ ap (λ characters. string_bytes c.args.out.now ++ flat_map printed_character characters) same
