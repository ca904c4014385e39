use Rattle.std.proofs.Common.{◌≡◌, ◌+◌, take, drop, rules, refl, sym, ap, ◌∙◌}
use mir.Syntax.{w64}
use mir.Val.{SFits}
use Rattle.std.proofs.lemmas.Int.{to_z-of_z}
use Rattle.function_rules.specs.Lists.{first_place}
use Rattle.plain_functions.proofs.ValueLists.{back_read, end_read, front_read, slice_found, start_read}
use Rattle.plain_functions.proofs.lists.slice.Goals as goal

pub returns : goal.returns
returns c =
    let items = c.args.values.now in
    let front = c.unwrap_or-front.result.now in
    let in_front : front ≡ take (c.in-Ok.end + 1) items =
    ap (λ part. part.now) c.unwrap_or-front.ensures ∙ front_read items c.args.values (c.in-Ok.end + 1) c.get.result refl c.get.ensures.lookup in
    let from = c.unwrap_or-start.result in
    let in_back : c.unwrap_or.result.now ≡ drop from front =
    ap (λ part. part.now) c.unwrap_or.ensures ∙ back_read front _ from c.get-2.result refl c.get-2.ensures.lookup in
    let end_fits : SFits w64 c.place_in.result = search rules in
    let start_fits : SFits w64 c.place_in-2.result = search rules in
    let to_end = rw (to_z-of_z w64 c.args.end c.ranges.end) at c.place_in.ensures in
    let to_start = rw (to_z-of_z w64 c.args.start c.ranges.start) at c.place_in-2.ensures in
    let last = end_read c.place_in.result c.in-Ok.end (rw (to_z-of_z w64 c.place_in.result end_fits) at c.in-Ok.ensures) in
    let first =
    c.unwrap_or-start.ensures
    ∙ start_read c.place_in-2.result c.try_from-2.result start_fits (rw (to_z-of_z w64 c.place_in-2.result start_fits) at c.try_from-2.ensures) in
    slice_found items front c.unwrap_or.result.now c.args.start c.args.end from c.in-Ok.end
    (sym to_end ∙ last) (first ∙ ap first_place to_start) in_front in_back
