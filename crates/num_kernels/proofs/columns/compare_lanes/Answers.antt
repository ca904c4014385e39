use Rattle.std.proofs.Common.{◌+◌, ℕ, ◌≡◌, ◌∙◌, sym, ap, arith}
use Rattle.num_folds.specs.Lanes.{at}
use Rattle.num_kernels.specs.Numbers.{compares}
use Rattle.num_kernels.proofs.Bits.{not_bits}
use Rattle.num_kernels.proofs.Numbers.{not_less}
use Rattle.num_kernels.proofs.columns.compare_lanes.Goals as goal

pub returns-in-1 : goal.returns-in-1
returns-in-1 g c = λ k below.
    let x = at (g.T.Operand.wholes c.args.left.now) (c.args.start + k) in
    let y = at (g.T.Operand.wholes c.args.right.now) (c.args.start + k) in
    not_bits g.row.N c.equal_lanes-in-1.result _ c.requires.1.few c.equal_lanes-in-1.type_inv c.equal_lanes-in-1.ensures k below
    ∙ ap (λ (op : ℕ). compares op x y) (sym c.in-1.is)

pub returns-in-3 : goal.returns-in-3
returns-in-3 g c = λ k below.
    let x = at (g.T.Operand.wholes c.args.left.now) (c.args.start + k) in
    let y = at (g.T.Operand.wholes c.args.right.now) (c.args.start + k) in
    not_bits g.row.N c.less_lanes-in-3.result _ c.requires.1.few c.less_lanes-in-3.type_inv c.less_lanes-in-3.ensures k below
    ∙ not_less y x
    ∙ ap (λ (op : ℕ). compares op x y) (sym c.in-3.is)

pub returns-in_default : goal.returns-in_default
returns-in_default g c = λ k below.
    let x = at (g.T.Operand.wholes c.args.left.now) (c.args.start + k) in
    let y = at (g.T.Operand.wholes c.args.right.now) (c.args.start + k) in
    not_bits g.row.N c.less_lanes-in_default.result _ c.requires.1.few c.less_lanes-in_default.type_inv c.less_lanes-in_default.ensures k below
    ∙ not_less x y
    ∙ ap (λ (op : ℕ). compares op x y) (sym (let five : g.row.OP ≡ 5 = omega arith in five))
