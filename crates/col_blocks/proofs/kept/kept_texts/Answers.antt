use Rattle.std.proofs.Common.{◌≡◌, ℕ, ◌+◌, ◌-◌, ◌<◌, ◌≤◌, Bool, true, false, cond, List, [], ◌∷◌, ◌++◌, Some, None, map, length, get_or, take, drop, refl, sym, ap, ◌∙◌, subst, arith}
use Rattle.col_blocks.proofs.Keeps.{kept_step}
use Rattle.col_blocks.proofs.kept.kept_texts.Goals as goal

pub loop-place-preserved : goal.loop-place-preserved
loop-place-preserved c =
    kept_step {X = List ℕ} c.args.keep.now c.args.texts.now c.loop-place.new c.push_text_if.new.new c.loop-place.place [] c.get.result (omega arith) (omega arith) c.loop-place.invariant c.get.ensures
    (c.in_ok-push_text_if.ensures ∙ ap (λ (text : List ℕ). c.loop-place.new ++ cond {A = List (List ℕ)} c.get.result (text ∷ []) []) c.at.ensures)
