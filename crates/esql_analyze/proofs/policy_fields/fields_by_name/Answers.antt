use Rattle.std.proofs.Common.{◌≡◌, ◌-◌, length, drop, arith, ap, ◌∙◌, cond, Some}
use Rattle.std.specs.Str.{bytes_eq}
use Rattle.std.proofs.lemmas.Map.Text.{btree_map_updates_str}
use Rattle.esql_analyze.proofs.PolicyFields.{at_place, placed_from, placed_is, placed_turn}
use Rattle.esql_analyze.proofs.policy_fields.fields_by_name.Goals as goal

pub loop-back-preserved : goal.loop-back-preserved
loop-back-preserved c = λ name.
    let fields = c.args.fields.now in
    let back = c.loop-back.back in
    let field = c.index-fields-place.result in
    let rest = placed_from (drop (length fields - back) fields) (length fields - back) name in
    let kept = Some (at_place (length fields - 1 - back) field) in
    btree_map_updates_str c.as_str.result.now c.loop-back.named c.insert.new.self _ c.in_ok-insert.ensures.updates name
    ∙ ap (cond (bytes_eq c.as_str.result.now name) kept) (c.loop-back.invariant name)
    ∙ ap (λ text. cond (bytes_eq text name) kept rest) c.as_str.ensures
    ∙ placed_turn fields back field name (omega arith) c.index-fields-place.is

pub returns : goal.returns
returns c = λ name.
    let fields = c.args.fields.now in
    let end : length fields - c.loop-back.back ≡ 0 = omega arith in
    c.loop-back.invariant name ∙ (λ i. placed_from (drop (end i) fields) (end i) name) ∙ placed_is fields 0 name
