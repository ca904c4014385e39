use Rattle.std.proofs.Common.{◌≡◌, ◌+◌, ◌^◌, ◌<◌, ◌≤◌, ℕ, Bool, cond, ◌∙◌, sym, ap, subst, arith, bit_and, w64}
use Rattle.std.proofs.lemmas.Int.{to_z-of_z}
use Rattle.std.specs.Int.RustNames.{unsigned_abs}
use Rattle.num_folds.specs.Totals.{both_at, kept_at, IsTotal}
use Rattle.num_folds.specs.Lanes.{at}
use Rattle.num_folds.proofs.Steps.{some_lanes, few_lanes, short_bits, part_short, kept_bits}
use Rattle.num_folds.proofs.Totals.{total_one, sum_fits, few_fit, kept_fits, kept_small}
use lib.IntN.{ℤ, pos, ◌+ℤ◌}
use mir.Syntax.{w128}
use mir.Val.{SFits, of_z, to_z}
use Rattle.num_folds.proofs.sums.sum_after.Goals as goal

pub kept_lanes-kept-requires : goal.kept_lanes-kept-requires
kept_lanes-kept-requires g c =
    let n = g.row.N in
    let few : n ≤ 16 = few_lanes n c.requires.0 in (
      omega arith,
      (
        some_lanes n c.requires.0,
        few,
        c.requires.4,
        short_bits n c.requires.0 _ (subst (λ (b : ℕ). bit_and b c.bits-2.result < 2 ^ n) (sym c.bits.ensures) (part_short c.args.valid.now c.args.start n (omega arith) c.bits-2.result)),
        c.fit.ensures,
      ),
    )

pub loop-k-preserved : goal.loop-k-preserved
loop-k-preserved g c =
    let n = g.row.N in
    let k = c.loop-k.k in
    let start = c.args.start in
    let valid = c.args.valid.now in
    let keep = c.args.keep.now in
    let values = c.args.values.now in
    let series = kept_at values valid keep in
    let sum = to_z w128 c.loop-k.sum-bits in
    let x = at values (start + k) in
    let value = at c.kept_lanes-kept.result k in
    let below : k < n = c.loop-k-test.true in
    let room : start + n ≤ 65536 = omega arith in
    let fits : SFits w64 x = c.fit.ensures k below in
    let value_is : value ≡ series (start + k) = c.kept_lanes-kept.ensures k below ∙ ap (λ (b : Bool). cond b x (pos 0)) (kept_bits valid keep start n c.bits.ensures c.bits-2.ensures k below) in
    let kept = both_at valid keep (start + k) in
    let small : unsigned_abs value ≤ 2 ^ 63 = kept_small w64 kept x value fits value_is in
    let value_fits : SFits w64 value = subst (SFits w64) (sym value_is) (kept_fits w64 kept x fits) in
    let widened : SFits w128 value = few_fit w128 63 1 value (omega arith) (omega arith) in
    let sum_small = c.loop-k.invariant.small in
    let is : to_z w128 (of_z w128 (sum +ℤ to_z w128 (of_z w128 (to_z w64 (of_z w64 value))))) ≡ sum +ℤ value =
    ap (λ (z : ℤ). to_z w128 (of_z w128 (sum +ℤ to_z w128 (of_z w128 z)))) (to_z-of_z w64 value value_fits)
    ∙ ap (λ (z : ℤ). to_z w128 (of_z w128 (sum +ℤ z))) (to_z-of_z w128 value widened)
    ∙ to_z-of_z w128 (sum +ℤ value) (sum_fits w128 63 (start + k) sum value 1 sum_small (omega arith) (omega arith)) in
    let next : start + k + 1 ≡ start + (k + 1) = omega arith in
    subst (λ (m : ℕ). IsTotal 63 series m (to_z w128 (of_z w128 (sum +ℤ to_z w128 (of_z w128 (to_z w64 (of_z w64 value))))))) next
    (subst (IsTotal 63 series (start + k + 1)) (sym is) (total_one 63 series (start + k) sum value c.loop-k.invariant value_is small))
