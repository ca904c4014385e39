-- The new columns of DISSECT, GROK and ENRICH: there is one for each column, and on a row of numbers they are seen as the cells
-- that take the places of those of their names on the row of names.
use Rattle.std.proofs.Common.{◌≡◌, ℕ, suc, ◌+◌, List, [], ◌∷◌, length, refl, ap, subst, ◌∙◌, arith}
use Rattle.esql_types.specs.declared.value.Value.{Value}
use Rattle.esql_types.specs.declared.names.Column.{Column}
use Rattle.esql_plan.specs.declared.plan.OutColumn.{OutColumn}
use Rattle.esql_plan.specs.Values.{NumberedRow}
use Rattle.plan_semantics.specs.Tables.{with_cell}
use Rattle.plan_semantics.specs.Taken.{with_new}
use Rattle.row_semantics.specs.Rows.{Row}
use Rattle.row_semantics.specs.Columns.{names_of}
use Rattle.query_semantics.specs.Appended.{put_cells}
use Rattle.query_semantics.specs.Writings.{put_visible}
use Rattle.query_semantics.specs.WrittenAppended.{put_new, new_columns}
use Rattle.query_semantics.specs.Named.{named_row}
use Rattle.query_semantics.proofs.Named.{AllBelow, named_put, below_put}

pub length-new : (next : ℕ) (columns : List Column) → length (new_columns next columns) ≡ length columns
length-new next [] = refl
length-new next (column ∷ columns) = ap (λ (n : ℕ). suc n) (length-new (next + 1) columns)

-- cells in new columns are seen under the names of the columns
pub named_new : (columns : List Column) (cells : List (List Value)) (visible : List OutColumn) (next : ℕ) (row : NumberedRow) → AllBelow next visible
    → put_cells (named_row visible row) (names_of columns) cells ≡ named_row (put_new visible columns next) (with_new row (new_columns next columns) cells)
named_new [] cells visible next row below = refl
named_new (column ∷ columns) [] visible next row below =
    ap (λ (these : Row). put_cells these (names_of columns) []) (named_put visible row column.name column.kind next [] below)
    ∙ named_new columns [] (put_visible visible column.name column.kind next) (next + 1) (with_cell row next []) (below_put visible column.name column.kind next below)
named_new (column ∷ columns) (cell ∷ cells) visible next row below =
    ap (λ (these : Row). put_cells these (names_of columns) cells) (named_put visible row column.name column.kind next cell below)
    ∙ named_new columns cells (put_visible visible column.name column.kind next) (next + 1) (with_cell row next cell) (below_put visible column.name column.kind next below)

-- their numbers are below the one behind them
pub below_new : (columns : List Column) (visible : List OutColumn) (next : ℕ) → AllBelow next visible → AllBelow (next + length columns) (put_new visible columns next)
below_new [] visible next below = subst (λ (n : ℕ). AllBelow n visible) (same next) below
  where
    same : (n : ℕ) → n ≡ n + 0
    same n = omega arith
below_new (column ∷ columns) visible next below =
    let seen : List OutColumn = put_visible visible column.name column.kind next in
    subst (λ (n : ℕ). AllBelow n (put_new seen columns (next + 1))) (same next (length columns)) (below_new columns seen (next + 1) (below_put visible column.name column.kind next below))
  where
    same : (n m : ℕ) → n + 1 + m ≡ n + suc m
    same n m = omega arith
