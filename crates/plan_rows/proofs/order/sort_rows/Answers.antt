use Rattle.std.proofs.Common.{rules, filter, List, Bool, ◌∙◌, ap}
use Rattle.std.specs.Ordering.{is_lt}
use Rattle.std.specs.List.Sorted.{ties}
use Rattle.std.proofs.lemmas.Fn.{always_returns_same}
use Rattle.std.proofs.lemmas.List.Sorted.{ranks_by}
use Rattle.esql_types.specs.declared.value.Value.{Value}
use Rattle.page_ops.proofs.StableSorts.{stable_sort_once}
use Rattle.plan_rows.specs.Kept.{order_of_kept}
use Rattle.plan_rows.proofs.KeyOrders.{kept_total}
use Rattle.plan_rows.proofs.order.sort_rows.Goals as goal

pub returns : goal.returns
returns c =
    let total = kept_total c.args.keys.now in
    let less : List (List Value) → List (List Value) → Bool = λ this that. is_lt (order_of_kept c.args.keys.now this that) in
    let weak = ranks_by total (λ row. row) in
    c.from_vec.ensures
    ∙ stable_sort_once (order_of_kept c.args.keys.now) total c.args.rows c.sort_by.new.self.items
    (c.in_ok-sort_by.ensures.sorted less weak (always_returns_same _ _ _ (λ a r f k. search rules)))
    (λ tie. c.in_ok-sort_by.ensures.stable less weak (always_returns_same _ _ _ (λ a r f k. search rules)) tie ∙ ap (filter (ties less tie)) c.into_vec-rows.ensures)
