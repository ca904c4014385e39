use Rattle.std.proofs.Common.{◌≡◌, ℕ, ◌<◌, List, Bool, false, ◌&&◌, ◌∙◌, ap, arith, length, length-set}
use Rattle.num_kernels.specs.Numbers.{fails, result_at}
use Rattle.num_folds.specs.Lanes.{at, set_at}
use Rattle.num_kernels.proofs.Steps.{by_all, set_done, set_kept}
use Rattle.num_kernels.proofs.Wholes.{long, read, written}
use lib.IntN.{ℤ, pos}
use Rattle.num_kernels.proofs.columns.arith_rest.Goals as goal

pub loop-place-preserved : goal.loop-place-preserved
loop-place-preserved g c =
    let invariant = c.loop-place.invariant in
    let start = c.args.start in
    let place = c.loop-place.place in
    let valid = c.args.valid.now in
    let width = g.T.Operand.width in
    let whole = g.T.Operand.whole in
    let wholes = g.T.Operand.wholes in
    let each = g.met.T.Operand.each in
    let left_is = read whole wholes each c.args.left.now place c.index-left-place.result (omega arith) c.index-left-place.is in
    let right_is = read whole wholes each c.args.right.now place c.index-right-place.result (omega arith) c.index-right-place.is in
    let P : ℕ → ℤ = λ k. result_at width g.row.OP (set_at valid k) (at (wholes c.args.left.now) k) (at (wholes c.args.right.now) k) in
    let F : ℕ → Bool = λ k. set_at valid k && fails width g.row.OP (at (wholes c.args.left.now) k) (at (wholes c.args.right.now) k) in
    let value = c.arith_at-value.result.0 in
    let failure = c.arith_at-value.result.1 in
    let value_is : whole value ≡ P place = c.arith_at-value.ensures.value ∙ by_all (λ b x y. result_at width g.row.OP b x y) c.get.ensures left_is right_is in
    let failure_is : failure ≡ F place = c.arith_at-value.ensures.failure ∙ by_all (λ b x y. b && fails width g.row.OP x y) c.get.ensures left_is right_is in
    let to = wholes c.loop-place.to in
    let now = written whole wholes each c.loop-place.to place value in
    let within : place < length to = let long_to = long whole wholes each c.loop-place.to in omega arith in
    let done = set_done (pos 0) P to start place (whole value) within value_is invariant.done in
    let kept = set_kept (pos 0) P to start place (whole value) (omega arith) in
    let failed_done = set_done false F c.loop-place.failed start place failure (omega arith) failure_is invariant.failed_done in
    let failed_kept = set_kept false F c.loop-place.failed start place failure (omega arith) in
    record {
      same_length = length-set c.loop-place.to place value ∙ invariant.same_length;
      as_many = ap length c.set.ensures ∙ length-set c.loop-place.failed place failure ∙ invariant.as_many;
      untouched = λ k below. ap (λ (numbers : List ℤ). at numbers k) now ∙ kept k below ∙ invariant.untouched k below;
      failed_untouched = λ k below. ap (λ (mask : List Bool). set_at mask k) c.set.ensures ∙ failed_kept k below ∙ invariant.failed_untouched k below;
      done = λ k from below. ap (λ (numbers : List ℤ). at numbers k) now ∙ done k from below;
      failed_done = λ k from below. ap (λ (mask : List Bool). set_at mask k) c.set.ensures ∙ failed_done k from below;
    }
