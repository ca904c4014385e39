-- A page as the list of its rows, each a map from column numbers to cells.
use Rattle.std.specs.Prelude.{ℕ, zero, suc, ◌≡◌, ◌==◌, Bool, if◌then◌else◌, List, [], ◌∷◌, Option, Some, None, map, length, All}
use Rattle.std.specs.List.{list_any}
use Rattle.esql_types.specs.declared.value.Value.{Value}
use Rattle.esql_types.specs.declared.names.ColId.{ColId}
use Rattle.col_blocks.specs.declared.page.Page.{Page}
use Rattle.col_blocks.specs.Seen.{BlockSeen}

-- the cell of each column number
abbrev pub PageRow : Type 0
PageRow = ℕ → List Value

-- the cells of each column number, none where there is no such column
abbrev pub Columns : Type 0
Columns = ℕ → List (List Value)

abbrev pub first_cell : List (List Value) → List Value
first_cell [] = []
first_cell (cell ∷ cells) = cell

abbrev pub later_cells : List (List Value) → List (List Value)
later_cells [] = []
later_cells (cell ∷ cells) = cells

-- the rows of columns
abbrev pub rows_by : ℕ → Columns → List PageRow
rows_by zero columns = []
rows_by (suc rows) columns = (λ (id : ℕ). first_cell (columns id)) ∷ rows_by rows (λ (id : ℕ). later_cells (columns id))

-- a column more, or in the place of another
abbrev pub with_column : Columns → ℕ → List (List Value) → Columns
with_column columns id cells = λ (other : ℕ). if id == other then cells else columns other

-- what stands at the first column of the number
abbrev pub found_by : {X : Type 0} → List ColId → List X → ℕ → Option X
found_by [] blocks id = None
found_by (column ∷ columns) [] id = None
found_by (column ∷ columns) (block ∷ blocks) id = if column.0 == id then Some block else found_by columns blocks id

abbrev pub cells_found : Option BlockSeen → List (List Value)
cells_found None = []
cells_found (Some block) = block.cells

abbrev pub has_column : List ColId → ℕ → Bool
has_column columns id = list_any (λ (column : ColId). column.0 == id) columns

abbrev pub blocks_of : Page → List BlockSeen
blocks_of page = map (λ rc. rc.value) page.blocks

abbrev pub columns_of : Page → Columns
columns_of page = λ (id : ℕ). cells_found (found_by page.columns (blocks_of page) id)

abbrev pub rows_of_page : Page → List PageRow
rows_of_page page = rows_by page.rows (columns_of page)

-- each number has a block, and each block a cell for each row
pub record IsEven (page : Page) : Type 0 where
  pub as_long : All (λ (block : BlockSeen). length block.cells ≡ page.rows) (blocks_of page)
  pub as_many : length page.columns ≡ length (blocks_of page)

-- a row with the cells of some numbers alone
abbrev pub restricted : List ColId → PageRow → PageRow
restricted ids row = λ (id : ℕ). if has_column ids id then row id else []
