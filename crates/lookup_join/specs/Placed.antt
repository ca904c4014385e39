-- A table with the places of its rows, and the policies that find its rows by a column and by their places.
use Rattle.std.specs.Prelude.{ℕ, pos, suc, zero, Bool, List, [], ◌∷◌, ◌++◌, codes, length, if◌then◌else◌}
use Rattle.std.specs.List.{list_any}
use Rattle.std.specs.Str.{bytes_eq}
use Rattle.esql_types.specs.declared.value.Kind.TheVariants.{Long as LongKind}
use Rattle.esql_types.specs.declared.value.Value.{Value}
use Rattle.esql_types.specs.declared.value.Value.TheVariants.{Long}
use Rattle.esql_types.specs.declared.names.Column.{Column}
use Rattle.esql_plan.specs.declared.catalog.PolicyShape.{PolicyShape}
use Rattle.esql_plan.specs.declared.catalog.TableShape.{TableShape}
use Rattle.plan_semantics.specs.Tables.{TableHeld}

-- a name with `#` behind it, which no name in a query has
abbrev pub hashed : List ℕ → List ℕ
hashed name = name ++ codes "#"

-- a column has the name
abbrev pub has_column : List Column → List ℕ → Bool
has_column columns name = list_any (λ (column : Column). bytes_eq column.name name) columns

-- the shortest run of `#`, of those with this one and at most so many more, that is no column's name
abbrev pub free_run : ℕ → List ℕ → List Column → List ℕ
free_run zero run columns = run
free_run (suc more) run columns = if has_column columns run then free_run more (35 ∷ run) columns else run

-- the name of the column of places: the shortest run of `#` that is no column's name
abbrev pub place_name : List Column → List ℕ
place_name columns = free_run (length columns) (35 ∷ []) columns

-- the column of the places of rows, which are counted from 0
abbrev pub place_column : List Column → Column
place_column columns = record { name = place_name columns; kind = LongKind }

abbrev pub placed_shape : TableShape → TableShape
placed_shape shape = record { name = hashed shape.name; columns = shape.columns ++ place_column shape.columns ∷ [] }

abbrev pub place_cell : ℕ → List Value
place_cell place = Long (pos place) ∷ []

abbrev pub placed_row : ℕ → List (List Value) → List (List Value)
placed_row place row = row ++ place_cell place ∷ []

-- rows with their places behind them, where the first of these has a place
abbrev pub placed_from : ℕ → List (List (List Value)) → List (List (List Value))
placed_from place [] = []
placed_from place (row ∷ rows) = placed_row place row ∷ placed_from (suc place) rows

-- the table with one more column at the end, the places of its rows
abbrev pub placed_table : TableHeld → TableHeld
placed_table table = record { shape = placed_shape table.shape; rows = placed_from 0 table.rows }

-- the policy that gives the places of the rows that match a column, over the table with places of a number
abbrev pub key_policy : ℕ → TableShape → Column → PolicyShape
key_policy number shape column = record {
  name = hashed shape.name ++ column.name;
  tables = number ∷ [];
  match_field = column;
  fields = place_column shape.columns ∷ [];
}

-- the policy that gives all columns of the row of a place
abbrev pub row_policy : ℕ → TableShape → PolicyShape
row_policy number shape = record {
  name = hashed shape.name;
  tables = number ∷ [];
  match_field = place_column shape.columns;
  fields = shape.columns;
}
