use Rattle.std.proofs.Common.{◌≡◌, ℕ, ◌+◌, ◌-◌, ◌<◌, ◌≤◌, Bool, true, false, leb, eqb, List, [], ◌∷◌, ◌++◌, map, length, get_or, take, drop, refl, sym, ap, ◌∙◌, subst, arith}
use Rattle.std.specs.Prelude.{nat_lt}
use Rattle.std.proofs.Common.{length-set}
use Rattle.col_blocks.proofs.FirstOf.{filled_more, filled_all}
use Rattle.col_blocks.proofs.spread.filled_rows.Goals as goal

pub loop-row-preserved : goal.loop-row-preserved
loop-row-preserved c =
    let read = ap (λ (begin : ℕ). nat_lt begin (get_or c.args.ends.now c.loop-row.row 0)) c.begin_of.ensures in
    record {
      as_long = ap length c.set.ensures ∙ length-set c.loop-row.valid c.loop-row.row _ ∙ c.loop-row.invariant.as_long;
      same = filled_more c.args.ends.now c.loop-row.valid c.set.new.self c.loop-row.row (nat_lt c.begin_of.result (get_or c.args.ends.now c.loop-row.row 0)) c.loop-row-test.true c.loop-row.invariant.as_long c.loop-row.invariant.same c.set.ensures read;
    }

pub returns : goal.returns
returns c = filled_all c.args.ends.now c.loop-row.valid c.loop-row.row c.loop-row-test.false c.loop-row.invariant.as_long c.loop-row.invariant.same
