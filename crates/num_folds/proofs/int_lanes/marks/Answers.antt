use Rattle.std.proofs.Common.{◌-◌, ◌^◌, ◌<◌, ℕ, not, cond, ◌∙◌, eqb, arith, w32, bit_and}
use Rattle.num_folds.proofs.Lanes.{Lane, lane_at, lane_at_length, lane_splat, lane_zip}
use Rattle.num_folds.proofs.Marks.{mark_value}
use Rattle.num_folds.proofs.int_lanes.marks.Goals as goal

pub returns : goal.returns
returns g c =
    let lane : (k : ℕ) → k < g.row.N → Lane g.row.N _ k _ = λ k below.
    lane_zip below (λ a b. cond (not (eqb a b)) (2 ^ 32 - 1) 0) (lane_zip below bit_and (lane_splat below c.args.bits) (record { long = c.loop-k.invariant.long; is = c.loop-k.invariant.each k (omega arith) })) (lane_splat below 0) in
    record {
      long = (lane_at_length w32 (lane 0 c.requires.0));
      each = λ k below. lane_at below w32 (lane k below) ∙ mark_value w32 c.args.bits k;
    }
