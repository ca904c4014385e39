use Rattle.std.proofs.Common.{◌+◌, ℕ, List, [], ◌∷◌, ◌++◌, drop, sym, ap, subst, ◌∙◌}
use Rattle.std.specs.List.{filter_map}
use Rattle.esql_ast.specs.declared.query.EnrichItem.{EnrichItem}
use Rattle.query_semantics.specs.Appended.{taken_item}
use Rattle.query_semantics.specs.AppendedShapes.{first_unknown}
use Rattle.plan_writing.proofs.Turns.{dropped}
use Rattle.esql_analyze.proofs.PolicyFields.{TakenSoFar, one_taken, item_first, item_known, item_taken}
use Rattle.esql_analyze.proofs.policy_fields.take_items.Goals as goal

pub loop-item-preserved : goal.loop-item-preserved
loop-item-preserved c =
    let fields = c.args.fields.now in
    let items = c.args.items.now in
    let i = c.loop-item.item-index in
    let item = c.item-item.result in
    let left = dropped i items item c.loop-item-test.true c.item-item.is in
    let placed = c.in-Some.field in
    let found = sym (c.in_ok-named.ensures item.field.name) ∙ sym c.field_named.ensures ∙ c.in-Some.is in
    let all = filter_map (taken_item fields) items in
    let rest = filter_map (taken_item fields) (drop (i + 1) items) in
    let so_far = subst (λ these. TakenSoFar all these c.loop-item.taken)
    (ap (λ (these : List EnrichItem). filter_map (taken_item fields) these) left ∙ item_first fields item (drop (i + 1) items) placed found) c.loop-item.invariant.taken in
    record {
      taken = one_taken all rest (item_taken item placed) c.loop-item.taken c.take_one.new.taken so_far c.in_ok-take_one-in-Some.ensures.numbers
          (c.in_ok-take_one-in-Some.ensures.columns ∙ ap (λ (name : List ℕ). c.loop-item.taken.columns ++ record { name = name; kind = placed.kind } ∷ []) c.item_name.ensures);
      unknown = sym (item_known fields item (drop (i + 1) items) placed found) ∙ ap (first_unknown fields) (sym left) ∙ c.loop-item.invariant.unknown;
    }
