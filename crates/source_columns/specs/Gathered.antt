-- Columns as a map from names to kinds holds them.
use Rattle.std.specs.Prelude.{◌≡◌, ℕ, List, [], ◌∷◌, map, Option, Some, None, if◌then◌else◌}
use Rattle.std.specs.Borrow.{Bor}
use Rattle.std.specs.List.{AllByRecursion}
use Rattle.std.specs.Cmp.Lexicographic.{slice_cmp}
use Rattle.std.specs.Ordering.{nat_cmp}
use Rattle.std.specs.Str.{bytes_eq}
use Rattle.std.specs.declared.cmp.Ordering.TheVariants.{Less}
use Rattle.esql_types.specs.declared.names.Column.{Column}
use Rattle.esql_types.specs.declared.value.Kind.{Kind}

abbrev pub Entry : Type 0
Entry = Bor (List ℕ) × Kind

abbrev pub column_of : Entry → Column
column_of entry = record { name = entry.0.now; kind = entry.1 }

abbrev pub columns_in : List Entry → List Column
columns_in entries = map column_of entries

-- the kind of the first column of a name
abbrev pub kind_in : List Column → List ℕ → Option Kind
kind_in [] name = None
kind_in (column ∷ columns) name = if bytes_eq column.name name then Some column.kind else kind_in columns name

-- a name is before that of a column
abbrev pub IsBefore : List ℕ → Column → Type 0
IsBefore name column = slice_cmp nat_cmp name column.name ≡ Less

-- the name of each column is before those of all that stand behind it
abbrev pub AreOrdered : List Column → Type 0
AreOrdered [] = Unit {0}
AreOrdered (column ∷ columns) = AllByRecursion (IsBefore column.name) columns × AreOrdered columns
