-- What the rows of a table are like, also over files that do not tell what they hold.
use Rattle.std.specs.Prelude.{◌≡◌, ◌≤◌, List, length, All}
use Rattle.esql_types.specs.declared.value.Value.{Value}
use Rattle.ndjson_load.specs.Shapes.{IsLoadable, IsRowOf}
use Rattle.table_files.specs.declared.tables.FoundTable.{FoundTable}
use Rattle.table_files.specs.Catalog.{Rows, most_bytes}

-- each row has a cell for each column, of its kind where the columns are loadable, and there are no more rows than bytes
pub record IsTableOf (table : FoundTable) (rows : Rows) : Type 0 where
  pub wide : All (λ (row : List (List Value)). length row ≡ length table.columns) rows
  pub few : length rows ≤ most_bytes
  pub kinds : All IsLoadable table.columns → All (IsRowOf table.columns) rows
