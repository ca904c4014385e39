use Rattle.std.proofs.Common.{◌+◌, ◌*◌, ◌%◌, ◌^◌, ◌≤◌, ◌∙◌, arith, w32, w64}
use Rattle.std.specs.Int.RustNames.{int_lt}
use Rattle.num_folds.specs.Lanes.{at}
use Rattle.num_folds.proofs.Lanes.{lane_bit, lane_loaded, lane_splat, lane_zip, lane_map}
use Rattle.num_kernels.proofs.Bits.{or_bits}
use Rattle.num_kernels.proofs.Numbers.{product_fails_32}
use mir.Val.{of_z, to_z}
use Rattle.num_kernels.proofs.ints.I32Operand.product_fails.Goals as goal

pub returns : goal.returns
returns g c = λ k below.
    let x = at c.args.left.now (c.args.start + k) in
    let y = at c.args.right.now (c.args.start + k) in
    let fx = c.requires.fit_left k below in
    let fy = c.requires.fit_right k below in
    let few : g.row.N ≤ 64 = omega arith in
    let left = lane_loaded below w32 c.args.left.now c.args.start c.requires.room_left in
    let right = lane_loaded below w32 c.args.right.now c.args.start c.requires.room_right in
    let products = lane_zip below (λ a b. (a * b) % 2 ^ 64) (lane_map below (λ a. of_z w64 (to_z w32 a)) left) (lane_map below (λ a. of_z w64 (to_z w32 a)) right) in
    or_bits _ _ k (lane_bit below w64 (λ a b. int_lt (to_z w64 a) (to_z w64 b)) products (lane_splat below 18446744071562067968) few)
    (lane_bit below w64 (λ a b. int_lt (to_z w64 a) (to_z w64 b)) (lane_splat below 2147483647) products few)
    ∙ product_fails_32 x y fx fy
