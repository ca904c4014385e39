-- Rows, as a reader of a query sees them.
use Rattle.std.specs.Prelude.{ℕ, not, List, [], ◌∷◌, ◌++◌, filter, if◌then◌else◌}
use Rattle.std.specs.Str.{bytes_eq}
use Rattle.esql_types.specs.declared.value.Value.{Value}
use Rattle.row_semantics.specs.declared.row.NamedCell.{NamedCell}

-- a row is a list of cells with their names, which differ
abbrev pub Row : Type 0
Row = List NamedCell

-- the cell of a name, null where the row has none
abbrev pub cell_at : Row → List ℕ → List Value
cell_at [] name = []
cell_at (named ∷ row) name = if bytes_eq named.name name then named.cell else cell_at row name

-- the row without the cell of a name
abbrev pub without : Row → List ℕ → Row
without row name = filter (λ (named : NamedCell). not (bytes_eq named.name name)) row

-- a cell takes the place of that of its name, and stands at the end
abbrev pub put : Row → List ℕ → List Value → Row
put row name cell = without row name ++ record { name = name; cell = cell } ∷ []
