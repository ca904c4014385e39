use Rattle.std.proofs.Common.{◌≡◌, ℕ, ℤ, ◌+◌, ◌-◌, ◌<◌, ◌≤◌, Bool, true, false, cond, List, [], ◌∷◌, ◌++◌, Some, None, map, replicate, length, get_or, take, drop, refl, sym, ap, ◌∙◌, subst, arith}
use Rattle.esql_types.specs.declared.value.Value.{Value}
use Rattle.col_blocks.specs.Rows.{cells_of}
use Rattle.col_blocks.specs.Seen.{BlockSeen}
use Rattle.col_blocks.specs.Stored.{values_of}
use Rattle.std.proofs.lemmas.List.{length-replicate}
use Rattle.col_blocks.specs.Kept.{kept_by}
use Rattle.col_blocks.proofs.Keeps.{kept-map, kept_same}
use Rattle.col_blocks.proofs.block.Block.filter.Goals as goal

pub returns-in_ok-copy-in-Constant-clause-cells : goal.returns-in_ok-copy-in-Constant-clause-cells
returns-in_ok-copy-in-Constant-clause-cells c =
    let keep = c.args.keep.now in
    let cells : replicate c.in-Constant.len c.in-Constant.cell ≡ c.args.self.now.cells = ap cells_of (sym c.in-Constant.is) ∙ c.rows.ensures.cells in
    let copy = c.in_ok-copy-in-Constant.ensures in
    c.constant.ensures.cells ∙ (λ i. replicate (c.count.ensures i) (copy i))
    ∙ sym (kept_same keep c.in-Constant.cell c.in-Constant.len (c.requires ∙ ap length (sym cells) ∙ length-replicate c.in-Constant.len c.in-Constant.cell))
    ∙ ap (kept_by keep) cells

pub returns-in_ok-kept_values-in-Vector-clause-cells : goal.returns-in_ok-kept_values-in-Vector-clause-cells
returns-in_ok-kept_values-in-Vector-clause-cells c =
    let keep = c.args.keep.now in
    let values = c.in_ok-kept_values-in-Vector.ensures.values in
    ap (λ (block : BlockSeen). block.cells) c.of_rows.ensures
    ∙ ap (map (λ (value : Value). value ∷ [])) values
    ∙ kept-map (λ (value : Value). value ∷ []) keep (values_of c.in-Vector.values)
    ∙ ap (kept_by keep) (ap cells_of (sym c.in-Vector.is) ∙ c.rows.ensures.cells)
