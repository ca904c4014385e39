-- The layout `json` of a table: an object of its columns and its rows, as compact text.
use Rattle.std.specs.Prelude.{ℕ, List, [], ◌∷◌, ◌++◌, map, codes}
use Rattle.esql_types.specs.declared.names.Column.{Column}
use Rattle.esql_types.specs.declared.value.Kind.{Kind}
use Rattle.esql_types.specs.declared.value.Kind.TheVariants.{Integer, Long as LongKind, Boolean as BooleanKind, Keyword as KeywordKind, Null}
use Rattle.esql_types.specs.declared.value.Value.{Value}
use Rattle.esql_types.specs.declared.value.Value.TheVariants.{Int, Long, Bool as Boolean, Text as Keyword}
use Rattle.serde_json.specs.Data.{Data, null, boolean, number, string, array, object, member, no_members}
use Rattle.serde_json.specs.Find.{of_integer}
use Rattle.serde_json.specs.View.{items_of}
use Rattle.serde_json.specs.Written.{compact_text}

-- a number, a boolean, or a string
abbrev pub value_data : Value → Data
value_data (Int integer) = number (of_integer integer)
value_data (Long long) = number (of_integer long)
value_data (Boolean truth) = boolean truth
value_data (Keyword text) = string text

-- a null, the one value, or an array of several
abbrev pub cell_data : List Value → Data
cell_data [] = null
cell_data (value ∷ []) = value_data value
cell_data (first ∷ second ∷ rest) = array (items_of (map value_data (first ∷ second ∷ rest)))

-- an array of the cells
abbrev pub row_data : List (List Value) → Data
row_data row = array (items_of (map cell_data row))

-- a kind's name in lower case
abbrev pub kind_name : Kind → List ℕ
kind_name Integer = codes "integer"
kind_name LongKind = codes "long"
kind_name BooleanKind = codes "boolean"
kind_name KeywordKind = codes "keyword"
kind_name Null = codes "null"

-- an object of the column's name and its kind's
abbrev pub column_data : Column → Data
column_data column =
    object (member (codes "name") (string column.name) (member (codes "type") (string (kind_name column.kind)) no_members))

-- an object of the columns and the rows
abbrev pub table_data : List Column → List (List (List Value)) → Data
table_data columns rows =
    object (member (codes "columns") (array (items_of (map column_data columns)))
    (member (codes "values") (array (items_of (map row_data rows))) no_members))

-- a table in the layout `json`
abbrev pub shown_json : List Column → List (List (List Value)) → List ℕ
shown_json columns rows = compact_text (table_data columns rows) ++ codes "\n"
