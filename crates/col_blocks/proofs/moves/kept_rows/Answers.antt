use Rattle.std.proofs.Common.{◌≡◌, ℕ, ℤ, ◌+◌, ◌-◌, ◌<◌, ◌≤◌, Bool, true, false, cond, List, [], ◌∷◌, ◌++◌, Some, None, map, replicate, length, get_or, take, drop, refl, sym, ap, ◌∙◌, subst, arith}
use Rattle.esql_types.specs.declared.value.Value.{Value}
use Rattle.col_blocks.specs.Kept.{kept_by}
use Rattle.col_blocks.proofs.Growth.{cells_step}
use Rattle.col_blocks.proofs.Keeps.{kept_step}
use Rattle.col_blocks.proofs.moves.kept_rows.Goals as goal

pub loop-row-preserved : goal.loop-row-preserved
loop-row-preserved c =
    let row = c.loop-row.row in
    let keep = c.args.keep.now in
    let cells = c.args.block.now.cells in
    let more = cond {A = List (List Value)} c.get.result (get_or cells row [] ∷ []) [] in
    let before = kept_by (take row keep) (take row cells) in
    cells_step c.args.block.now.kind c.loop-row.builder c.push_row_if.new.builder before more (kept_by (take (row + 1) keep) (take (row + 1) cells)) c.loop-row.invariant c.in_ok-push_row_if.ensures
    (kept_step {X = List Value} keep cells before (before ++ more) row [] c.get.result (omega arith) (omega arith) refl c.get.ensures refl)
