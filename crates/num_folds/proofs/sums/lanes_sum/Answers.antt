use Rattle.std.proofs.Common.{◌+◌, ◌<◌, ℕ, Bool, cond, ◌∙◌, eqb, ap, w32, w64}
use Rattle.std.proofs.lemmas.Int.{to_z-of_z}
use Rattle.std.specs.Int.{bit_at}
use Rattle.num_folds.specs.Lanes.{at}
use Rattle.num_folds.proofs.Lanes.{lane_loaded, lane_splat, lane_map}
use Rattle.num_folds.proofs.Marks.{lane_pick, chosen_value}
use Rattle.num_folds.proofs.Totals.{lanes_total, kept_fits}
use lib.IntN.{ℤ, pos}
use mir.Val.{of_z, to_z}
use Rattle.num_folds.proofs.sums.lanes_sum.Goals as goal

pub returns : goal.returns
returns g c =
    let n = g.row.N in
    let values = c.args.values.now in
    let start = c.args.start in
    let bit : ℕ → Bool = λ k. eqb (bit_at c.args.bits k) 1 in
    let f : ℕ → ℤ = λ k. cond (bit k) (at values (start + k)) (pos 0) in
    let marked = c.marks.ensures in
    let fits = c.requires.4 in
    let lane = λ (k : ℕ) (below : k < n). lane_map below (λ a. of_z w64 (to_z w32 a))
    (lane_pick below w32 c.marks.result (bit k) marked.long (marked.each k below) (lane_loaded below w32 values start c.requires.2) (lane_splat below 0)) in
    lanes_total _ f n (lane 0 c.requires.0).long c.requires.1
    (λ k below. (lane k below).is ∙ ap (of_z w64) (chosen_value w32 (bit k) (of_z w32 (at values (start + k))) (at values (start + k)) (λ is. to_z-of_z w32 _ (fits k below))))
    (λ k below. kept_fits w32 (bit k) (at values (start + k)) (fits k below))
