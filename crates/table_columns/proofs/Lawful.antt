-- The cells of a row that is given by its present cells.
use Rattle.std.proofs.Common.{◌≡◌, ℕ, zero, suc, ◌<◌, List, [], ◌∷◌, Some, length, get_or, refl, ap, ◌∙◌, arith}
use Rattle.std.specs.Prelude.{All}
use Rattle.std.specs.List.{slice_get}
use Rattle.std.proofs.lemmas.List.{length-map}
use Rattle.std.proofs.lemmas.List.Elements.{All-head, All-tail}
use Rattle.std.proofs.lemmas.List.FromFn.{length-map-range_with_len, get_or-map-range_with_len}
use Rattle.col_blocks.proofs.Gets.{get_at}
use Rattle.table_columns.specs.declared.present.PresentCell.{PresentCell}
use Rattle.table_columns.specs.Sparse.{item_of}
use Rattle.table_columns.specs.Tables.{columns_present, cells_present, row_of}
use Rattle.table_columns.specs.Laws.{RowsAreWide, PresentCellsStand, OthersAreNull}
use Rattle.table_columns.proofs.Items.{passed, item_at}
use Rattle.table_columns.proofs.Rises.{rises_below}

pub rows_wide : RowsAreWide
rows_wide width present = length-map-range_with_len (item_of (columns_present present) (cells_present present)) 0 width

row_got : (width : ℕ) (present : List PresentCell) (column : ℕ) → column < width → slice_get (row_of width present) column ≡ Some (item_of (columns_present present) (cells_present present) column)
row_got width present column below =
    let long = rows_wide width present in
    get_at (row_of width present) column [] (omega arith) ∙ ap Some (get_or-map-range_with_len (item_of (columns_present present) (cells_present present)) 0 width column column [] below (omega arith))

got_column : (present : List PresentCell) (k : ℕ) (d : PresentCell) → k < length present → slice_get (columns_present present) k ≡ Some (get_or present k d).column
got_column [] k d within = absurd (omega (arith, within))
got_column (p ∷ present) zero d within = refl
got_column (p ∷ present) (suc k) d within = got_column present k d (omega (arith, within))

at_column : (present : List PresentCell) (k : ℕ) (d : PresentCell) → k < length present → get_or (columns_present present) k 0 ≡ (get_or present k d).column
at_column [] k d within = absurd (omega (arith, within))
at_column (p ∷ present) zero d within = refl
at_column (p ∷ present) (suc k) d within = at_column present k d (omega (arith, within))

got_cell : (present : List PresentCell) (k : ℕ) (d : PresentCell) → k < length present → get_or (cells_present present) k [] ≡ (get_or present k d).cell
got_cell [] k d within = absurd (omega (arith, within))
got_cell (p ∷ present) zero d within = refl
got_cell (p ∷ present) (suc k) d within = got_cell present k d (omega (arith, within))

pub present_stand : PresentCellsStand
present_stand kinds present are k d within =
    let column = (get_or present k d).column in
    let columns = length-map present (λ (p : PresentCell). p.column) in
    let cells = length-map present (λ (p : PresentCell). p.cell) in
    let at = at_column present k d within in
    let below = rises_below 0 (columns_present present) (length kinds) k (omega arith) are.rise in
    row_got (length kinds) present column (omega arith)
    ∙ ap Some (item_at 0 (columns_present present) (length kinds) (cells_present present) k column are.rise (omega arith) (got_column present k d within) ∙ got_cell present k d within)

none_present : (present : List PresentCell) (column : ℕ) → All (λ (cell : PresentCell). cell.column ≡ column → ⊥) present → item_of (columns_present present) (cells_present present) column ≡ []
none_present [] column others = refl
none_present (p ∷ present) column others =
    passed p.column column p.cell (item_of (columns_present present) (cells_present present) column) (All-head (λ (cell : PresentCell). cell.column ≡ column → ⊥) p present others)
    ∙ none_present present column (All-tail (λ (cell : PresentCell). cell.column ≡ column → ⊥) p present others)

pub others_null : OthersAreNull
others_null width present column below others = row_got width present column below ∙ ap Some (none_present present column others)
