use Rattle.std.proofs.Common.{◌≡◌, ◌+◌, ◌^◌, ◌<◌, ℕ, Bool, cond, ◌∙◌, sym, ap, subst, arith, bit_and, w64}
use Rattle.std.proofs.lemmas.Int.{to_z-of_z}
use Rattle.num_folds.specs.Totals.{kept_at, IsTotal}
use Rattle.num_folds.specs.Lanes.{at}
use Rattle.num_folds.proofs.Steps.{some_lanes, few_lanes, next_start, short_bits, part_short, kept_bits}
use Rattle.num_folds.proofs.Totals.{total_lanes, sum_fits, few_fit}
use lib.IntN.{ℤ, pos, ◌+ℤ◌}
use mir.Val.{SFits, of_z, to_z}
use Rattle.num_folds.proofs.sums.sum_ints.Goals as goal

pub lanes_sum-sum-requires : goal.lanes_sum-sum-requires
lanes_sum-sum-requires g c =
    let n = g.row.N in
    let start = c.loop-start.start in (
      some_lanes n c.requires.0,
      few_lanes n c.requires.0,
      omega arith,
      short_bits n c.requires.0 _ (subst (λ (b : ℕ). bit_and b c.bits-in-loop-start.result < 2 ^ n) (sym c.bits.ensures) (part_short c.args.valid.now start n (omega arith) c.bits-in-loop-start.result)),
      c.fit.ensures,
    )

pub loop-start-preserved : goal.loop-start-preserved
loop-start-preserved g c =
    let n = g.row.N in
    let start = c.loop-start.start in
    let valid = c.args.valid.now in
    let keep = c.args.keep.now in
    let values = c.args.values.now in
    let series = kept_at values valid keep in
    let invariant = c.loop-start.invariant in
    let sum = to_z w64 c.loop-start.sum-bits in
    let part = c.lanes_sum-sum.result in
    let lanes = c.lanes_sum-sum.ensures in
    let few = few_lanes n c.requires.0 in
    let part_small = lanes.small in
    let sum_small = invariant.summed.small in
    let part_fits : SFits w64 part = few_fit w64 31 n part part_small (omega arith) in
    let is : to_z w64 (of_z w64 (sum +ℤ to_z w64 (of_z w64 part))) ≡ sum +ℤ part =
    ap (λ (z : ℤ). to_z w64 (of_z w64 (sum +ℤ z))) (to_z-of_z w64 part part_fits) ∙ to_z-of_z w64 (sum +ℤ part) (sum_fits w64 31 start sum part n sum_small part_small (omega arith)) in
    let bits = kept_bits valid keep start n c.bits.ensures c.bits-in-loop-start.ensures in
    record {
      within = omega arith;
      aligned = next_start n c.requires.0 start invariant.aligned;
      summed = subst (IsTotal 31 series (start + n)) (sym is)
          (total_lanes 31 series _ start n sum part invariant.summed lanes
          (λ k below. ap (λ (b : Bool). cond b (at values (start + k)) (pos 0)) (bits k below)));
    }
