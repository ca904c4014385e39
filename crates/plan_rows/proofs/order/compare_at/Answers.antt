use Rattle.std.proofs.Common.{[], ◌∙◌, ap}
use Rattle.std.specs.Option.{unwrap_or}
use Rattle.std.proofs.lemmas.Option.{unwrap_or-slice_get}
use Rattle.plan_semantics.specs.Orders.{order_of_cells}
use Rattle.plan_rows.proofs.order.compare_at.Goals as goal

pub returns : goal.returns
returns c =
    let key = c.args.key in
    let left = ap (λ cell. unwrap_or cell []) c.at.ensures.value ∙ unwrap_or-slice_get c.args.left.now key.id.0 [] in
    let right = ap (λ cell. unwrap_or cell []) c.at-2.ensures.value ∙ unwrap_or-slice_get c.args.right.now key.id.0 [] in
    c.compare_cells.ensures ∙ (λ i. order_of_cells key.descending key.nulls_first (left i) (right i))
