use Rattle.std.proofs.Common.{◌≡◌, ℕ, List, Bool, false, ◌&&◌, ◌∙◌, ap, arith, length, length-set}
use Rattle.num_kernels.specs.Numbers.{compares}
use Rattle.num_folds.specs.Lanes.{at, set_at}
use Rattle.num_kernels.proofs.Steps.{by_all, set_done, set_kept}
use Rattle.num_kernels.proofs.Wholes.{read}
use Rattle.num_kernels.proofs.columns.compare_rest.Goals as goal

pub loop-place-preserved : goal.loop-place-preserved
loop-place-preserved g c =
    let invariant = c.loop-place.invariant in
    let start = c.args.start in
    let place = c.loop-place.place in
    let whole = g.T.Operand.whole in
    let wholes = g.T.Operand.wholes in
    let each = g.met.T.Operand.each in
    let left_is = read whole wholes each c.args.left.now place c.index-left-place.result (omega arith) c.index-left-place.is in
    let right_is = read whole wholes each c.args.right.now place c.index-right-place.result (omega arith) c.index-right-place.is in
    let P : ℕ → Bool = λ k. set_at c.args.valid.now k && compares g.row.OP (at (wholes c.args.left.now) k) (at (wholes c.args.right.now) k) in
    let holds = c.compare_at-holds.result in
    let is : holds ≡ P place = c.compare_at-holds.ensures ∙ by_all (λ b x y. b && compares g.row.OP x y) c.get.ensures left_is right_is in
    let done = set_done false P c.loop-place.to start place holds (omega arith) is invariant.done in
    let kept = set_kept false P c.loop-place.to start place holds (omega arith) in
    record {
      same_length = ap length c.set.ensures ∙ length-set c.loop-place.to place holds ∙ invariant.same_length;
      untouched = λ k below. ap (λ (mask : List Bool). set_at mask k) c.set.ensures ∙ kept k below ∙ invariant.untouched k below;
      done = λ k from below. ap (λ (mask : List Bool). set_at mask k) c.set.ensures ∙ done k from below;
    }
