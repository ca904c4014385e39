use Rattle.std.proofs.Common.{◌≡◌, ◌+◌, ◌<◌, ◌≤◌, ⊎_elim, ℕ, Bool, false, cond, length, ◌&&◌, ◌∙◌, sym, ap, arith, w64}
use Rattle.std.proofs.lemmas.Bool.{cases_lt}
use Rattle.std.specs.Int.{bit_not}
use Rattle.num_kernels.specs.Numbers.{exact, fails, result_at}
use Rattle.num_folds.specs.Lanes.{at, set_at}
use Rattle.num_folds.proofs.Steps.{some_lanes, few_lanes, in_one_word, next_start, short_bits}
use Rattle.num_kernels.proofs.Steps.{bit_where, bit_where_not, bits_short, fine_is_sound, lanes_done}
use Rattle.num_kernels.proofs.Wholes.{long}
use lib.IntN.{ℤ, pos}
use Rattle.num_kernels.proofs.columns.arith_columns.Goals as goal

pub put-requires : goal.put-requires
put-requires g c =
    let start = c.loop-start.start in
    let valid = c.args.valid.now in
    let few = few_lanes g.row.N c.requires.1 in
    let failing = c.lanes_fail-failing in
    let marked = c.bits-marked in
    let whole = g.T.Operand.whole in
    let wholes = g.T.Operand.wholes in
    let each = g.met.T.Operand.each in
    let long_left = long whole wholes each c.args.left.now in
    let long_right = long whole wholes each c.args.right.now in
    let long_to = long whole wholes each c.loop-start.to in
    let p : ℕ → Bool = λ k. fails g.T.Operand.width g.row.OP (at (wholes c.args.left.now) (start + k)) (at (wholes c.args.right.now) (start + k)) in (
      c.requires.0,
      record {
        load = record { some = some_lanes g.row.N c.requires.1; few = few; room_left = omega arith; room_right = omega arith; fit_left = c.fit.ensures; fit_right = c.fit-in-loop-start.ensures };
        room = omega arith;
        short = short_bits g.row.N c.requires.1 _ (bits_short valid start g.row.N marked.result marked.ensures (omega arith) (bit_not w64 failing.result));
        sound = λ k below is. fine_is_sound (set_at valid (start + k)) (p k) (sym (bit_where_not valid start g.row.N marked.result marked.ensures failing.result p failing.ensures k below few failing.type_inv) ∙ is);
      },
    )

pub put_bits-requires : goal.put_bits-requires
put_bits-requires g c =
    let few = few_lanes g.row.N c.requires.1 in
    let start = c.loop-start.start in (
      omega arith,
      in_one_word g.row.N c.requires.1 start c.loop-start.invariant.aligned,
      omega arith,
      bits_short c.args.valid.now start g.row.N c.bits-marked.result c.bits-marked.ensures (omega arith) c.lanes_fail-failing.result,
    )

pub loop-start-preserved : goal.loop-start-preserved
loop-start-preserved g c =
    let invariant = c.loop-start.invariant in
    let start = c.loop-start.start in
    let valid = c.args.valid.now in
    let whole = g.T.Operand.whole in
    let wholes = g.T.Operand.wholes in
    let each = g.met.T.Operand.each in
    let left = wholes c.args.left.now in
    let right = wholes c.args.right.now in
    let failing = c.lanes_fail-failing in
    let marked = c.bits-marked in
    let p : ℕ → Bool = λ k. fails g.T.Operand.width g.row.OP (at left k) (at right k) in
    let P : ℕ → ℤ = λ k. result_at g.T.Operand.width g.row.OP (set_at valid k) (at left k) (at right k) in
    let fine = bit_where_not valid start g.row.N marked.result marked.ensures failing.result (λ k. p (start + k)) failing.ensures in
    let bit = bit_where valid start g.row.N marked.result marked.ensures failing.result (λ k. p (start + k)) failing.ensures in
    let same_length : length c.put.new.to ≡ length c.loop-start.to =
    sym (long whole wholes each c.put.new.to) ∙ c.put.ensures.same_length ∙ long whole wholes each c.loop-start.to in
    record {
      same_length = same_length ∙ invariant.same_length;
      as_many = c.put_bits.ensures.same_length ∙ invariant.as_many;
      within = omega arith;
      aligned = next_start g.row.N c.requires.1 start invariant.aligned;
      done = lanes_done (pos 0) P (wholes c.loop-start.to) (wholes c.put.new.to) start g.row.N
          (λ k below. c.put.ensures.inside k below
          ∙ ap (λ (b : Bool). cond b (exact g.row.OP (at left (start + k)) (at right (start + k))) (pos 0)) (fine k below (few_lanes g.row.N c.requires.1) failing.type_inv))
          c.put.ensures.before invariant.done;
      failed_done = lanes_done false (λ k. set_at valid k && p k) c.loop-start.failed c.put_bits.new.self start g.row.N
          (λ k below. c.put_bits.ensures.inside k below ∙ bit k below) c.put_bits.ensures.before invariant.failed_done;
    }

pub returns-clause-failures : goal.returns-clause-failures
returns-clause-failures g c = λ k below. ⊎_elim
    (λ (before : k < c.loop-start.start). c.arith_rest.ensures.failed_before k before ∙ c.loop-start.invariant.failed_done k before)
    (λ (from : c.loop-start.start ≤ k). c.arith_rest.ensures.failures k from below)
    (cases_lt k c.loop-start.start)
