-- Present cells put at the ends of their columns.
use Rattle.std.specs.Prelude.{ℕ, zero, suc, List, [], ◌∷◌, ◌++◌}
use Rattle.esql_types.specs.declared.value.Value.{Value}
use Rattle.table_columns.specs.declared.present.PresentCell.{PresentCell}
use Rattle.table_columns.specs.declared.growing.GrowingColumn.{GrowingColumn}

-- a change of the item at a place alone
abbrev pub changed_at : {X : Type 0} → ℕ → (X → X) → List X → List X
changed_at place change [] = []
changed_at zero change (x ∷ xs) = change x ∷ xs
changed_at (suc place) change (x ∷ xs) = x ∷ changed_at place change xs

-- a column with the cell of one row more
abbrev pub with_cell : ℕ → List Value → GrowingColumn → GrowingColumn
with_cell number cell column = record { numbers = column.numbers ++ number ∷ []; cells = record column.cells { cells = column.cells.cells ++ cell ∷ [] } }

-- columns with the cells of one row more
abbrev pub placed : ℕ → List PresentCell → List GrowingColumn → List GrowingColumn
placed number [] columns = columns
placed number (present ∷ rest) columns = placed number rest (changed_at present.column (with_cell number present.cell) columns)

-- a column with the cell of one row more, unless that is null
abbrev pub with_filled : ℕ → List Value → GrowingColumn → GrowingColumn
with_filled number [] column = column
with_filled number (value ∷ values) column = with_cell number (value ∷ values) column

-- columns with the cells of one row more, of which those at the end may be missing
abbrev pub filled : ℕ → List (List Value) → List GrowingColumn → List GrowingColumn
filled number [] columns = columns
filled number (cell ∷ cells) [] = []
filled number (cell ∷ cells) (column ∷ columns) = with_filled number cell column ∷ filled number cells columns
