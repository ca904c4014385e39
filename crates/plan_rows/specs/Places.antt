-- Where the columns of a scan stand in the rows of a table.
use Rattle.std.specs.Prelude.{ℕ, ◌+◌, List, [], ◌∷◌, map, Option, Some, None, replicate, slice_set, slice_index_or, if◌then◌else◌}
use Rattle.std.specs.Str.{bytes_eq}
use Rattle.esql_types.specs.declared.value.Value.{Value}
use Rattle.esql_types.specs.declared.names.Column.{Column}
use Rattle.esql_plan.specs.declared.plan.ScanColumn.{ScanColumn}

-- the place of the first column of a name, where the first of these columns stands at a place
abbrev pub place_from : List Column → ℕ → List ℕ → Option ℕ
place_from [] place name = None
place_from (column ∷ columns) place name = if bytes_eq column.name name then Some place else place_from columns (place + 1) name

-- for each of so many column numbers, the place where a scan finds its cell in a row of these columns, if it is scanned
abbrev pub places_of : ℕ → List ScanColumn → List Column → List (Option ℕ)
places_of count [] columns = replicate count None
places_of count (scanned ∷ more) columns = slice_set (places_of count more columns) scanned.to.0 (place_from columns 0 scanned.name)

-- the cell at a place, null where there is none
abbrev pub cell_in : List (List Value) → Option ℕ → List Value
cell_in cells None = []
cell_in cells (Some place) = slice_index_or cells place []

-- the cells of a row at places
abbrev pub cells_in : List (Option ℕ) → List (List Value) → List (List Value)
cells_in places cells = map (cell_in cells) places
