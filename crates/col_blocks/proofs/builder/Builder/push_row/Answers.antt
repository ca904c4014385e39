use Rattle.std.proofs.Common.{◌≡◌, ℕ, ℤ, ◌+◌, ◌-◌, ◌<◌, ◌≤◌, Bool, true, false, cond, List, [], ◌∷◌, ◌++◌, Some, None, map, replicate, length, get_or, take, drop, refl, sym, ap, ◌∙◌, subst, arith}
use Rattle.std.specs.Option.{option_map}
use Rattle.col_blocks.specs.Stored.{value_read}
use Rattle.col_blocks.proofs.Gets.{got_none}
use Rattle.col_blocks.proofs.Growth.{row_step}
use Rattle.col_blocks.proofs.builder.Builder.push_row.Goals as goal
use Rattle.col_blocks.proofs.builder.Builder.push_row.Goals.{in-Some+in_ok-add, in_default}

pub loop-place-preserved : goal.loop-place-preserved
loop-place-preserved c =
    let values = get_or c.args.block.now.cells c.args.row [] in
    elim c.match-value_at.branch [
      | in-Some+in_ok-add w ↦
          row_step c.args.self.now c.loop-place.self c.match-value_at.self values c.loop-place.place (value_read w.in-Some.value) c.loop-place.invariant
          (sym (ap (option_map value_read) w.in-Some.is) ∙ c.value_at.ensures.value)
          (w.self-is ∙ w.in_ok-add.ensures.ok)
      | in_default w ↦ absurd (got_none values c.loop-place.place (omega arith) w.in_default.ensures.value)
    ]
