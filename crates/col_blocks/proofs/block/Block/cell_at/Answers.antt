use Rattle.std.proofs.Common.{◌≡◌, ℕ, ◌+◌, ◌-◌, ◌<◌, ◌≤◌, Bool, true, false, List, [], ◌∷◌, ◌++◌, Some, None, length, get_or, take, refl, sym, ap, ◌∙◌, subst, arith}
use Rattle.std.specs.Option.{option_map}
use Rattle.esql_types.specs.declared.value.Value.{Value}
use Rattle.col_blocks.specs.Stored.{value_read}
use Rattle.col_blocks.proofs.Gets.{copied_more, got_none}
use Rattle.col_blocks.proofs.block.Block.cell_at.Goals as goal
use Rattle.col_blocks.proofs.block.Block.cell_at.Goals.{in-Some+in_ok-owned+in_ok-push, in_default}

pub loop-place-preserved : goal.loop-place-preserved
loop-place-preserved c =
    let values = get_or c.args.self.now.cells c.args.row [] in
    elim c.match-value_at.branch [
      | in-Some+in_ok-owned+in_ok-push w ↦
          copied_more values c.loop-place.cell c.match-value_at.cell c.loop-place.place (value_read w.in-Some.value) c.loop-place.invariant
          (sym (ap (option_map value_read) w.in-Some.is) ∙ c.value_at.ensures.value)
          (w.cell-is ∙ w.in_ok-push.ensures.ok ∙ ap (λ (value : Value). c.loop-place.cell ++ value ∷ []) w.in_ok-owned.ensures)
      | in_default w ↦ absurd (got_none values c.loop-place.place (omega arith) w.in_default.ensures.value)
    ]
