use Rattle.std.proofs.Common.{◌≡◌, ℕ, rules, arith, length, filter, Bool, ap, sym, ◌∙◌, ◌++◌, ◌∷◌, []}
use Rattle.std.proofs.lemmas.Fn.{always_returns_same}
use Rattle.std.proofs.lemmas.List.Sorted.{ranks_by}
use Rattle.std.specs.List.{range_with_len}
use Rattle.std.specs.List.Sorted.{ties}
use Rattle.std.specs.Ordering.{is_lt}
use Rattle.page_ops.specs.Orders.{order_of_places}
use Rattle.page_ops.proofs.KeyOrders.{places_total}
use Rattle.page_ops.proofs.Ranges.{range_push}
use Rattle.page_ops.proofs.StableSorts.{stable_sort_once}
use Rattle.page_ops.proofs.places.sort_order.Goals as goal

pub loop-place-preserved : goal.loop-place-preserved
loop-place-preserved c =
    c.in_ok-push.ensures.items ∙ ap (λ places. places ++ c.loop-place.place ∷ []) c.loop-place.invariant ∙ sym (range_push c.loop-place.place)

pub returns : goal.returns
returns c =
    let end : c.loop-place.place ≡ length c.args.rows.now = omega (arith, c.loop-place-test.false, c.loop-place.auto.place-end) in
    let whole = c.loop-place.invariant ∙ ap (range_with_len 0) end in
    let order = order_of_places c.args.keys.now c.args.rows.now in
    let total = places_total c.args.keys.now c.args.rows.now in
    let less : ℕ → ℕ → Bool = λ this that. is_lt (order this that) in
    let weak = ranks_by total (λ place. place) in
    c.from_vec.ensures
    ∙ stable_sort_once order total (range_with_len 0 (length c.args.rows.now)) c.sort_by.new.self.items
    (c.in_ok-sort_by.ensures.sorted less weak (always_returns_same _ _ _ (λ a r f k. search rules)))
    (λ tie. c.in_ok-sort_by.ensures.stable less weak (always_returns_same _ _ _ (λ a r f k. search rules)) tie ∙ ap (filter (ties less tie)) whole)
