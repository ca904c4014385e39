use Rattle.std.proofs.Common.{◌≡◌, ℕ, ℤ, ◌+◌, ◌-◌, ◌<◌, ◌≤◌, Bool, true, false, cond, List, [], ◌∷◌, ◌++◌, Some, None, map, replicate, length, get_or, take, drop, refl, sym, ap, ◌∙◌, subst, arith}
use Rattle.esql_types.specs.declared.value.Value.{Value}
use Rattle.col_blocks.specs.Rows.{cells_of}
use Rattle.col_blocks.specs.Seen.{BlockSeen}
use Rattle.col_blocks.specs.Stored.{values_of}
use Rattle.std.proofs.lemmas.List.{length-replicate, take-replicate, drop-replicate, take-map, drop-map}
use Rattle.col_blocks.proofs.block.Block.slice.Goals as goal

pub returns-in_ok-copy-in-Constant-clause-cells : goal.returns-in_ok-copy-in-Constant-clause-cells
returns-in_ok-copy-in-Constant-clause-cells c =
    let start = c.args.start in
    let len = c.args.len in
    let n = c.in-Constant.len in
    let cell = c.in-Constant.cell in
    let cells : replicate n cell ≡ c.args.self.now.cells = ap cells_of (sym c.in-Constant.is) ∙ c.rows.ensures.cells in
    let many = length-replicate n cell in
    let same = ap length cells in
    let copy = c.in_ok-copy-in-Constant.ensures in
    c.constant.ensures.cells ∙ ap (replicate len) copy
    ∙ sym (ap (take len) (drop-replicate start n cell) ∙ take-replicate len (n - start) cell (omega arith))
    ∙ ap (λ (cells : List (List Value)). take len (drop start cells)) cells

pub returns-in_ok-part_of_values-in-Vector-clause-cells : goal.returns-in_ok-part_of_values-in-Vector-clause-cells
returns-in_ok-part_of_values-in-Vector-clause-cells c =
    let start = c.args.start in
    let len = c.args.len in
    let values = c.in_ok-part_of_values-in-Vector.ensures.values in
    ap (λ (block : BlockSeen). block.cells) c.of_rows.ensures
    ∙ ap (map (λ (value : Value). value ∷ [])) values
    ∙ sym (take-map (λ (value : Value). value ∷ []) len (drop start (values_of c.in-Vector.values)))
    ∙ ap (take len) (sym (drop-map (λ (value : Value). value ∷ []) start (values_of c.in-Vector.values)))
    ∙ ap (λ (cells : List (List Value)). take len (drop start cells)) (ap cells_of (sym c.in-Vector.is) ∙ c.rows.ensures.cells)
