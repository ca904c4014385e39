use Rattle.std.proofs.Common.{◌≡◌, ℕ, ◌+◌, ◌-◌, ◌<◌, ◌≤◌, Bool, true, false, leb, eqb, List, [], ◌∷◌, ◌++◌, map, length, get_or, take, drop, refl, sym, ap, ◌∙◌, subst, arith}
use Rattle.std.specs.List.{slice_range}
use Rattle.col_blocks.specs.Cells.{first_or}
use Rattle.col_blocks.proofs.Cuts.{rises_at}
use Rattle.col_blocks.proofs.FirstOf.{first_more, first_all}
use Rattle.col_blocks.proofs.spread.spread_texts.Goals as goal

pub first_text-requires : goal.first_text-requires
first_text-requires c = (rises_at 0 c.args.ends.now (length c.args.texts.now) c.loop-row.row c.requires c.loop-row-test.true).1

pub loop-row-preserved : goal.loop-row-preserved
loop-row-preserved c =
    first_more {X = List ℕ} [] c.args.texts.now c.args.ends.now c.loop-row.new c.push.new.self c.loop-row.row c.first_text.result.now c.loop-row-test.true c.loop-row.invariant
    (c.first_text.ensures ∙ ap (λ (begin : ℕ). first_or {X = List ℕ} [] (slice_range c.args.texts.now begin (get_or c.args.ends.now c.loop-row.row 0))) c.begin_of.ensures)
    c.in_ok-push.ensures.ok

pub returns : goal.returns
returns c = first_all {X = List ℕ} [] c.args.texts.now c.args.ends.now c.loop-row.new c.loop-row.row c.loop-row-test.false c.loop-row.invariant
