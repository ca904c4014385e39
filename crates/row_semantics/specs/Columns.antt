-- Columns by their names.
use Rattle.std.specs.Prelude.{ℕ, not, List, [], ◌∷◌, ◌++◌, filter, map}
use Rattle.std.specs.List.{IsDistinct}
use Rattle.std.specs.Str.{bytes_eq}
use Rattle.esql_types.specs.declared.value.Kind.{Kind}
use Rattle.esql_types.specs.declared.names.Column.{Column}

abbrev pub names_of : List Column → List (List ℕ)
names_of columns = map (λ (column : Column). column.name) columns

-- no two columns have one name
abbrev pub HaveDistinctNames : List Column → Type 0
HaveDistinctNames columns = IsDistinct bytes_eq (names_of columns)

-- the columns without the one of a name
abbrev pub without_column : List Column → List ℕ → List Column
without_column columns name = filter (λ (column : Column). not (bytes_eq column.name name)) columns

-- a column takes the place of that of its name, and stands at the end
abbrev pub put_column : List Column → List ℕ → Kind → List Column
put_column columns name kind = without_column columns name ++ record { name = name; kind = kind } ∷ []

-- a column under another name
abbrev pub column_as : List ℕ → Column → Column
column_as name column = record { name = name; kind = column.kind }
