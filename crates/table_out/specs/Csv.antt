-- The layout `csv` of a table: a record of the names, and one for each row.
use Rattle.std.specs.Prelude.{ℕ, List, [], ◌∷◌, ◌++◌, map, flat_map}
use Rattle.esql_types.specs.declared.names.Column.{Column}
use Rattle.esql_types.specs.declared.value.Value.{Value}
use Rattle.answer_text.specs.Cells.{cell_text}
use Rattle.csv.specs.Writing.{default_writer, row_text}

-- nothing where the cell is null, else the cell's text
abbrev pub cell_field : List Value → List ℕ
cell_field [] = []
cell_field (first ∷ rest) = cell_text (first ∷ rest)

-- the names of the columns
abbrev pub names_of : List Column → List (List ℕ)
names_of columns = map (λ column. column.name) columns

-- the fields of a row
abbrev pub fields_of : List (List Value) → List (List ℕ)
fields_of row = map cell_field row

-- a table in the layout `csv`, as a default writer writes records
abbrev pub shown_csv : List Column → List (List (List Value)) → List ℕ
shown_csv columns rows =
    row_text default_writer (names_of columns) ++ flat_map (λ row. row_text default_writer (fields_of row)) rows
