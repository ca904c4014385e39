use Rattle.std.proofs.Common.{◌≡◌, ◌+◌, ◌^◌, ◌<◌, ℕ, Bool, cond, ◌∙◌, eqb, sym, ap, arith, bit_or, ◌*◌, ◌%◌, w64}
use Rattle.std.proofs.lemmas.Int.{to_z-of_z}
use Rattle.std.specs.Int.{bit_at}
use Rattle.num_kernels.specs.Numbers.{mul, fails}
use Rattle.num_folds.specs.Lanes.{at}
use Rattle.num_kernels.proofs.Steps.{mark_done, mark_ahead}
use lib.IntN.{ℤ}
use mir.Val.{of_z, to_z}
use Rattle.num_kernels.proofs.longs.I64Operand.product_fails.Goals.{then-product_overflows, else-product_overflows}
use Rattle.num_kernels.proofs.longs.I64Operand.product_fails.Goals as goal

pub loop-k-preserved : goal.loop-k-preserved
loop-k-preserved g c =
    let k = c.loop-k.k in
    let x = at c.args.left.now (c.args.start + k) in
    let y = at c.args.right.now (c.args.start + k) in
    let P : ℕ → Bool = λ j. fails w64 mul (at c.args.left.now (c.args.start + j)) (at c.args.right.now (c.args.start + j)) in
    let short : k < 64 = let few = c.requires.few in omega arith in
    let t = c.product_overflows.result in
    let is : t ≡ P k =
    c.product_overflows.ensures
    ∙ ap (λ (z : ℤ). fails w64 mul z (to_z w64 (of_z w64 y))) (to_z-of_z w64 x (c.requires.fit_left k c.loop-k-test.true))
    ∙ ap (fails w64 mul x) (to_z-of_z w64 y (c.requires.fit_right k c.loop-k-test.true)) in
    let bits : c.if-product_overflows.fails ≡ cond t (bit_or c.loop-k.fails (1 * 2 ^ k % 2 ^ 64)) c.loop-k.fails = elim c.if-product_overflows.branch [
      | then-product_overflows w ↦ w.fails-is ∙ ap (λ (b : Bool). cond b (bit_or c.loop-k.fails (1 * 2 ^ k % 2 ^ 64)) c.loop-k.fails) (sym w.if-product_overflows.true)
      | else-product_overflows w ↦ w.fails-is ∙ ap (λ (b : Bool). cond b (bit_or c.loop-k.fails (1 * 2 ^ k % 2 ^ 64)) c.loop-k.fails) (sym w.if-product_overflows.false)
    ] in
    record {
      done = λ j below. ap (λ (b : ℕ). eqb (bit_at b j) 1) bits ∙ mark_done P c.loop-k.fails k short c.loop-k.invariant.done c.loop-k.invariant.ahead t is j below;
      ahead = λ j past. ap (λ (b : ℕ). bit_at b j) bits ∙ mark_ahead P c.loop-k.fails k short c.loop-k.invariant.done c.loop-k.invariant.ahead t j past;
    }
