use Rattle.std.proofs.Common.{◌≡◌, ℕ, ◌+◌, ◌-◌, ◌<◌, ◌≤◌, Bool, true, false, leb, eqb, List, [], ◌∷◌, ◌++◌, map, length, get_or, take, drop, refl, sym, ap, ◌∙◌, subst, arith}
use Rattle.std.specs.List.{slice_range}
use Rattle.col_blocks.specs.Cells.{first_or}
use Rattle.col_blocks.proofs.Cuts.{rises_at}
use Rattle.col_blocks.proofs.FirstOf.{first_more, first_all}
use Rattle.col_blocks.proofs.spread.spread_items.Goals as goal

pub first_of-requires : goal.first_of-requires
first_of-requires g c = (rises_at 0 c.args.ends.now (length c.args.items.now) c.loop-row.row c.requires c.loop-row-test.true).1

pub loop-row-preserved : goal.loop-row-preserved
loop-row-preserved g c = let h = c.first_of.ensures in let p = c.in_ok-push.ensures.items in
    first_more c.args.other c.args.items.now c.args.ends.now c.loop-row.new.items c.push.new.self.items c.loop-row.row c.first_of.result c.loop-row-test.true c.loop-row.invariant
    (c.first_of.ensures ∙ ap (λ (begin : ℕ). first_or c.args.other (slice_range c.args.items.now begin (get_or c.args.ends.now c.loop-row.row 0))) c.begin_of.ensures)
    c.in_ok-push.ensures.items

pub returns : goal.returns
returns g c = first_all c.args.other c.args.items.now c.args.ends.now c.loop-row.new.items c.loop-row.row c.loop-row-test.false c.loop-row.invariant
