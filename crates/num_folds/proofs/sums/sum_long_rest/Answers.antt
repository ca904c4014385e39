use Rattle.std.proofs.Common.{rules, ◌≡◌, ◌+◌, ◌^◌, ◌≤◌, Bool, cond, ◌&&◌, ◌∙◌, sym, ap, subst, arith, w64}
use Rattle.std.proofs.lemmas.Int.{to_z-of_z}
use Rattle.std.specs.Int.RustNames.{unsigned_abs}
use Rattle.num_folds.specs.Totals.{both_at, kept_at, IsTotal}
use Rattle.num_folds.specs.Lanes.{at, set_at}
use Rattle.num_folds.proofs.Totals.{total_one, sum_fits, few_fit, kept_value, kept_small}
use lib.IntN.{ℤ, pos, ◌+ℤ◌}
use mir.Syntax.{w128}
use mir.Val.{SFits, of_z, to_z}
use Rattle.num_folds.proofs.sums.sum_long_rest.Goals as goal

pub loop-place-preserved : goal.loop-place-preserved
loop-place-preserved c =
    let place = c.loop-place.place in
    let valid = c.args.valid.now in
    let keep = c.args.keep.now in
    let values = c.args.values.now in
    let series = kept_at values valid keep in
    let sum = to_z w128 c.loop-place.sum-bits in
    let value = c.kept_long-sum.result in
    let x = at values place in
    let fits : SFits w64 x = search rules in
    let value_is : value ≡ series place =
    kept_value w64 c.get.result c.get-in-loop-place.result x value fits c.kept_long-sum.ensures
    ∙ ap (λ (b : Bool). cond (b && c.get-in-loop-place.result) x (pos 0)) c.get.ensures
    ∙ ap (λ (b : Bool). cond (set_at valid place && b) x (pos 0)) c.get-in-loop-place.ensures in
    let small : unsigned_abs value ≤ 2 ^ 63 = kept_small w64 (both_at valid keep place) x value fits value_is in
    let value_fits : SFits w128 value = few_fit w128 63 1 value (omega arith) (omega arith) in
    let sum_small = c.loop-place.invariant.small in
    let is : to_z w128 (of_z w128 (sum +ℤ to_z w128 (of_z w128 value))) ≡ sum +ℤ value =
    ap (λ (z : ℤ). to_z w128 (of_z w128 (sum +ℤ z))) (to_z-of_z w128 value value_fits)
    ∙ to_z-of_z w128 (sum +ℤ value) (sum_fits w128 63 place sum value 1 sum_small (omega arith) (omega arith)) in
    subst (IsTotal 63 series (place + 1)) (sym is) (total_one 63 series place sum value c.loop-place.invariant value_is small)
