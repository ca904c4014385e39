-- What rows a table has: a cell for each column, of its kind.
use Rattle.std.specs.Prelude.{◌≡◌, ◌≢◌, ℕ, ◌<◌, Bool, true, false, List, length, get_or, All, IfSome}
use Rattle.std.specs.List.{AllZip}
use Rattle.esql_types.specs.declared.value.Kind.{Kind}
use Rattle.esql_types.specs.declared.value.Kind.TheVariants.{Integer, Long as LongKind, Boolean, Keyword, Null}
use Rattle.esql_types.specs.declared.value.Value.{Value}
use Rattle.esql_types.specs.declared.value.Value.TheVariants.{Int, Long, Bool as Truth, Text as Word}
use Rattle.ndjson_load.specs.Mappings.{name_lt}
use Rattle.ndjson_load.specs.declared.column.MappedColumn.{MappedColumn}

-- a value is of a kind; none is of the kind null
abbrev pub is_of_kind : Kind → Value → Bool
is_of_kind Integer (Int number) = true
is_of_kind LongKind (Long number) = true
is_of_kind Boolean (Truth truth) = true
is_of_kind Keyword (Word text) = true
is_of_kind kind value = false

-- a column is of a kind that values have, and the value that it takes for a null is of its kind
pub record IsLoadable (column : MappedColumn) : Type 0 where
  pub known : column.column.kind ≢ Null
  pub null_value : IfSome column.null_value (λ value. is_of_kind column.column.kind value ≡ true)

-- the names of columns rise in byte order: each is less than every later one, so that no two are equal
abbrev pub NamesRise : List MappedColumn → Type 0
NamesRise columns = (i j : ℕ) (d : MappedColumn) → i < j → j < length columns → name_lt (get_or columns i d) (get_or columns j d) ≡ true

-- each value of a cell is of the kind of its column
abbrev pub IsCellOf : MappedColumn → List Value → Type 0
IsCellOf column cell = All (λ value. is_of_kind column.column.kind value ≡ true) cell

-- a row has a cell for each column, of its kind
abbrev pub IsRowOf : List MappedColumn → List (List Value) → Type 0
IsRowOf columns row = AllZip IsCellOf columns row
