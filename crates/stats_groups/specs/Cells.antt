-- Rows of cells in the order of the column numbers, and what is put into them.
use Rattle.std.specs.Prelude.{ℕ, zero, suc, List, [], ◌∷◌}
use Rattle.esql_types.specs.declared.value.Value.{Value}
use Rattle.esql_types.specs.declared.names.ColId.{ColId}

-- the row with a cell at a place, and null at each place before it that the row did not have
abbrev pub put_cell : List (List Value) → ℕ → List Value → List (List Value)
put_cell [] zero cell = cell ∷ []
put_cell [] (suc place) cell = [] ∷ put_cell [] place cell
put_cell (first ∷ row) zero cell = cell ∷ row
put_cell (first ∷ row) (suc place) cell = first ∷ put_cell row place cell

-- the row with these cells at these columns
abbrev pub put_cells : List (List Value) → List ColId → List (List Value) → List (List Value)
put_cells row [] cells = row
put_cells row (to ∷ columns) [] = row
put_cells row (to ∷ columns) (cell ∷ cells) = put_cells (put_cell row to.0 cell) columns cells
