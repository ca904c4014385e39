use Rattle.std.proofs.Common.{◌+◌, ℕ, Bool, false, ◌&&◌, ◌∙◌, arith}
use Rattle.num_kernels.specs.Numbers.{compares}
use Rattle.num_folds.specs.Lanes.{at, set_at}
use Rattle.num_folds.proofs.Steps.{few_lanes, in_one_word, next_start}
use Rattle.num_kernels.proofs.Steps.{bit_where, bits_short, lanes_done}
use Rattle.num_kernels.proofs.columns.compare_columns.Goals as goal

pub put_bits-requires : goal.put_bits-requires
put_bits-requires g c =
    let few = few_lanes g.row.N c.requires.1 in
    let start = c.loop-start.start in (
      omega arith,
      in_one_word g.row.N c.requires.1 start c.loop-start.invariant.aligned,
      omega arith,
      bits_short c.args.valid.now start g.row.N c.bits.result c.bits.ensures (omega arith) c.compare_lanes-holding.result,
    )

pub loop-start-preserved : goal.loop-start-preserved
loop-start-preserved g c =
    let invariant = c.loop-start.invariant in
    let start = c.loop-start.start in
    let valid = c.args.valid.now in
    let p : ℕ → Bool = λ k. compares g.row.OP (at (g.T.Operand.wholes c.args.left.now) k) (at (g.T.Operand.wholes c.args.right.now) k) in
    let bit = bit_where valid start g.row.N c.bits.result c.bits.ensures c.compare_lanes-holding.result (λ k. p (start + k)) c.compare_lanes-holding.ensures in
    record {
      same_length = c.put_bits.ensures.same_length ∙ invariant.same_length;
      within = omega arith;
      aligned = next_start g.row.N c.requires.1 start invariant.aligned;
      done = lanes_done false (λ k. set_at valid k && p k) c.loop-start.to c.put_bits.new.self start g.row.N
          (λ k below. c.put_bits.ensures.inside k below ∙ bit k below) c.put_bits.ensures.before invariant.done;
    }
