use Rattle.std.proofs.Common.{◌+◌, ℕ, Bool, ◌∙◌, eqb, w64}
use Rattle.std.proofs.lemmas.Int.{to_z-of_z}
use Rattle.std.specs.Int.{bit_at}
use Rattle.num_folds.specs.Lanes.{at}
use Rattle.num_folds.proofs.Lanes.{lane_at, lane_loaded, lane_splat}
use Rattle.num_folds.proofs.Marks.{lane_pick, chosen_value}
use mir.Val.{of_z}
use Rattle.num_folds.proofs.sums.kept_lanes.Goals as goal

pub returns : goal.returns
returns g c =
    let values = c.args.values.now in
    let start = c.args.start in
    let bit : ℕ → Bool = λ k. eqb (bit_at c.args.bits k) 1 in
    let marked = c.marks.ensures in
    let fits = c.requires.4 in
    λ k below.
    lane_at below w64 (lane_pick below w64 c.marks.result (bit k) marked.long (marked.each k below) (lane_loaded below w64 values start c.requires.2) (lane_splat below 0))
    ∙ chosen_value w64 (bit k) (of_z w64 (at values (start + k))) (at values (start + k)) (λ is. to_z-of_z w64 _ (fits k below))
