use Rattle.std.proofs.Common.{◌≡◌, ◌++◌, sym, ap, ◌∙◌, subst}
use Rattle.std.specs.List.{flat_map}
use Rattle.std.specs.Str.{chars}
use Rattle.std.specs.String.{string_bytes}
use Rattle.std.proofs.Math.Utf8.{encode}
use Rattle.std.proofs.lemmas.Iterator.{YieldsList-from_chars}
use Rattle.std.proofs.lemmas.Iterator.Consumers.{YieldsList-end}
use Rattle.std.proofs.lemmas.List.{map-id, append-nil}
use Rattle.std.proofs.lemmas.Str.{encodes-chars, encode_ascii}
use Rattle.esql_lex.specs.Contents.{undone}
use Rattle.esql_lex.proofs.Contents.{ComesTo, held, comes_to_pair, comes_to_mark, comes_to_other, comes_to_all}
use Rattle.esql_lex.proofs.content.undone.Goals as goal
use Rattle.esql_lex.proofs.content.undone.Goals.{then-marked-2+in_ok-push-3, else-marked-2}

pub loop-character-preserved-then-marked : goal.loop-character-preserved-then-marked
loop-character-preserved-then-marked c =
    let loop = c.loop-character in
    let mark = c.args.mark in
    let so_far = subst (λ marked. ComesTo mark loop.yielded marked (string_bytes loop.out)) c.if-marked.true loop.invariant in
    let bytes = c.in_ok-push.ensures.bytes ∙ ap (λ character. string_bytes loop.out ++ encode character) c.meant.ensures in
    λ rest. comes_to_pair mark c.in-Some.character loop.yielded (string_bytes loop.out) c.requires.ascii so_far rest ∙ ap (λ front. front ++ undone mark rest) (sym bytes)

pub loop-character-preserved-then-character-mark :
    goal.loop-character-preserved-then-character-mark
loop-character-preserved-then-character-mark c =
    let loop = c.loop-character in
    let mark = c.args.mark in
    let so_far = subst (λ marked. ComesTo mark loop.yielded marked (string_bytes loop.out)) c.if-marked.false loop.invariant in
    comes_to_mark mark c.in-Some.character loop.yielded (string_bytes loop.out) c.requires.ascii c.if-character-mark.true so_far

pub loop-character-preserved : goal.loop-character-preserved
loop-character-preserved c =
    let loop = c.loop-character in
    let mark = c.args.mark in
    let so_far = subst (λ marked. ComesTo mark loop.yielded marked (string_bytes loop.out)) c.if-marked.false loop.invariant in
    let more = comes_to_other mark c.in-Some.character loop.yielded (string_bytes loop.out) c.requires.ascii c.if-character-mark.false so_far in
    let bytes = c.in_ok-push-2.ensures.bytes in
    let same = c.if-marked.false in
    λ rest. more rest ∙ ap (λ front. front ++ undone mark rest) (sym bytes) ∙ ap (λ marked. string_bytes c.push-else-character-mark.new.self ++ undone mark (held marked mark ++ rest)) (sym same)

pub returns : goal.returns
returns c =
    let loop = c.loop-character in
    let mark = c.args.mark in
    let text = c.args.inside.now in
    let all = YieldsList-end (YieldsList-from_chars text c.utf8.inside cc) loop.yielded _ loop.yielded_by _ _ c.in-None.is c.next.ensures.steps in
    let same : loop.yielded ≡ chars text = sym (map-id loop.yielded) ∙ all.0 in
    let whole : flat_map encode loop.yielded ≡ text = ap (flat_map encode) same ∙ encodes-chars text c.utf8.inside in
    let is : undone mark text ≡ string_bytes loop.out ++ held loop.marked mark = comes_to_all mark loop.yielded text (string_bytes loop.out) loop.marked whole loop.invariant in
    elim c.if-marked-2.branch [
      | then-marked-2+in_ok-push-3 w ↦
          (let last = w.in_ok-push-3.ensures.bytes ∙ ap (λ bytes. string_bytes loop.out ++ bytes) (encode_ascii mark c.requires.ascii) in
          c.from_string.ensures ∙ ap (λ out. string_bytes out) w.out-is ∙ last ∙ ap (λ marked. string_bytes loop.out ++ held marked mark) (sym w.if-marked-2.true) ∙ sym is)
      | else-marked-2 w ↦
          (c.from_string.ensures ∙ ap (λ out. string_bytes out) w.out-is ∙ sym (append-nil (string_bytes loop.out)) ∙ ap (λ marked. string_bytes loop.out ++ held marked mark) (sym w.if-marked-2.false) ∙ sym is)
    ]
