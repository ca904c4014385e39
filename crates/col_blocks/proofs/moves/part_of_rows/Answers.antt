use Rattle.std.proofs.Common.{◌≡◌, ℕ, ℤ, ◌+◌, ◌-◌, ◌<◌, ◌≤◌, Bool, true, false, cond, List, [], ◌∷◌, ◌++◌, Some, None, map, replicate, length, get_or, take, drop, refl, sym, ap, ◌∙◌, subst, arith}
use Rattle.std.proofs.Common.{length-drop}
use Rattle.std.proofs.lemmas.List.{take_more, get_or-drop}
use Rattle.esql_types.specs.declared.value.Value.{Value}
use Rattle.col_blocks.proofs.Growth.{cells_step}
use Rattle.col_blocks.proofs.moves.part_of_rows.Goals as goal

pub loop-row-preserved : goal.loop-row-preserved
loop-row-preserved c =
    let row = c.loop-row.row in
    let start = c.args.start in
    let cells = c.args.block.now.cells in
    let long = length-drop start cells in
    let rest = drop start cells in
    cells_step c.args.block.now.kind c.loop-row.builder c.push_row.new.self (take row rest) (get_or cells (start + row) [] ∷ []) (take (row + 1) rest) c.loop-row.invariant c.in_ok-push_row.ensures
    (ap (λ (cell : List Value). take row rest ++ cell ∷ []) (sym (get_or-drop start cells row [])) ∙ sym (take_more rest row [] (omega arith)))
